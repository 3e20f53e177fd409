-- Lengths by first numbers, which rise.
use mathlib.Core.Path.{◌≡◌}
use Prim.Native.Nat.{ℕ, suc, ◌≤◌, ◌<◌}
use native.Mathlib.Omega.{arith}
use native.Mathlib.Decide.{dec_le, le_ind}

-- what never falls from one place to the next never falls
pub rising : (f : ℕ → ℕ) → ((n : ℕ) → f n ≤ f (suc n)) → {j k : ℕ} → j ≤ k → f j ≤ f k
rising f up {j} {k} h = le_ind (λ k. f j ≤ f k) (omega arith) (λ k l ih. omega (arith, up k)) k h

-- n is from the first number of a length up to the next
abbrev pub Between : (ℕ → ℕ) → ℕ → ℕ → Type 0
Between f n d = (f d ≤ n) × (n < f (suc d))

-- of one length only
pub between-one : (f : ℕ → ℕ) → ((n : ℕ) → f n ≤ f (suc n)) → (n d k : ℕ) → Between f n d → Between f n k → d ≡ k
between-one f up n d k a b =
    elim (dec_le d k) [
      | yes l ↦
          elim (dec_le k d) [
            | yes g ↦ omega arith
            | no g ↦ absurd (omega (arith, rising f up {j = suc d} {k = k} (omega arith)))
          ]
      | no l ↦ absurd (omega (arith, rising f up {j = suc k} {k = d} (omega arith)))
    ]
