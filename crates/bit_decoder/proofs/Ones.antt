-- What ones are worth, by the first numbers.
use mathlib.Core.Path.{◌≡◌, ap, ◌∙◌}
use Prim.Native.Nat.{ℕ, ◌+◌, ◌≤◌, ◌<◌}
use native.Mathlib.Omega.{arith}
use native.Mathlib.Numerals.{add-one}
use Rattle.fibonacci.specs.Code.{ones, value, first}
use Rattle.fibonacci.specs.Leaves.{number_or_zero}
use Rattle.calls.specs.Limits.{max_number}
use Rattle.fibonacci.proofs.Numbers.{first_pos, first-rises, value-ones}
use Rattle.fibonacci.proofs.Lookup.{number-kept, number-none, number-some}

-- none
pub ones_none : (m j run : ℕ) → run ≡ 0 → 0 ≡ value m j (ones run)
unfolding value
ones_none m j run e = omega (arith, ap (λ (k : ℕ). value m j (ones k)) e)

-- no first number of that length was found: it is above the largest number
pub ones_far : (m d : ℕ) → number_or_zero (first m d) ≡ 0 → max_number < first m d
ones_far m d e = number-none _ (first_pos m d) e

-- a first number that was found is at most that
pub ones_near : (m d far : ℕ) → far ≡ number_or_zero (first m d) → 1 ≤ far → (first m d ≤ max_number) × (far ≡ first m d)
ones_near m d far f some =
    let there = number-some (first m d) (λ e. omega arith) in
    (there, f ∙ number-kept _ there)

-- two were found: what the ones are worth is between them
pub ones_between : (m len run near far : ℕ) → near ≡ number_or_zero (first m (len + 1)) → far ≡ number_or_zero (first m (len + run + 1)) → 1 ≤ far
    → near + value m (len + 1) (ones run) ≡ far
ones_between m len run near far n f some =
    let there = ones_near m (len + run + 1) far f some in
    let here : first m (len + 1) ≤ max_number = omega (arith, there, first-rises m {j = len + 1} {k = len + run + 1} (omega arith)) in
    let sum = rw (← add-one len, ← add-one (len + run)) at (value-ones m len run) in
    omega (arith, there, number-kept _ here, sum)
