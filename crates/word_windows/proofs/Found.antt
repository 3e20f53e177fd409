-- A number that was looked up: a first number, and the value of the digits.
use mathlib.Core.Path.{◌≡◌, ◌∙◌}
use Prim.Native.Nat.{ℕ, ◌+◌, ◌≤◌}
use native.Mathlib.Omega.{arith}
use native.Mathlib.Decide.{dec_le}
use Rattle.fibonacci.specs.Code.{first}
use Rattle.calls.proofs.Checks.{above-number}
use Rattle.calls.specs.Limits.{max_number}
use Rattle.fibonacci.specs.Leaves.{number_or_zero}
use Rattle.fibonacci.proofs.Numbers.{first_pos}
use Rattle.fibonacci.proofs.Lookup.{number-kept, number-zero}
use Rattle.digit_values.specs.Leaves.{Saturated}
use Rattle.word_windows.specs.Leaves.{ExactIfLegal}

-- no look-up is above the largest number
pub looked_up : (x : ℕ) → number_or_zero x ≤ max_number
looked_up x =
    elim (dec_le x max_number) [
      | yes h ↦ omega (arith, number-kept x h)
      | no h ↦ omega (arith, number-zero x (omega arith))
    ]

-- a first number that was found, and what a value was found to be
pub judged : (m d v f r : ℕ) → f ≡ number_or_zero (first m d) → first m d ≤ max_number → Saturated v r → ExactIfLegal (first m d + v) (f + r)
judged m d v f r e h k =
    let same : f ≡ first m d = e ∙ number-kept _ h in
    let some = first_pos m d in (
      λ h. omega (arith, k.0 (omega arith)),
      λ h.
          elim (dec_le v max_number) [
            | yes l ↦ above-number max_number (f + r) (omega arith) (omega (arith, k.0 l))
            | no l ↦ above-number max_number (f + r) (omega arith) (omega (arith, k.1 (omega arith)))
          ],
    )
