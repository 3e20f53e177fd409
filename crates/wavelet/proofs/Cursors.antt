-- The numbers of a walk: how deep it goes, and what it looks up.
use mathlib.Core.Path.{◌≡◌, refl, ap}
use mathlib.Core.Bool.{Bool, true, false}
use Prim.Native.Nat.{ℕ, ◌+◌, ◌≤◌, ◌<◌}
use native.Mathlib.Omega.{arith}
use native.Mathlib.Decide.{dec_le}
use native.Mathlib.Numerals.{add-one}
use lib.Dec.{leb}
use borrow.Author.Tests.{leb-false}
use Rattle.fibonacci.specs.Code.{past, F, first}
use Rattle.calls.specs.Limits.{Order}
use Rattle.fibonacci.proofs.Numbers.{first-suc, first-rises, F-first}
use Rattle.fibonacci.proofs.Lookup.{each-order, first-within}
use Rattle.wavelet.specs.Questions.{max_alphabet}
use Rattle.wavelet.specs.Leaves.{side_of}
use Rattle.wavelet.specs.declared.Cursor.{Cursor}

-- no codeword of the largest alphabet has more than 16 bits before its last ones
seventeen : (m : ℕ) → Order m → max_alphabet < first m 17
unfolding past F first
seventeen m o = leb-false _ _ (each-order (λ m. leb (first m 17) max_alphabet) false refl m o)

pub shallow : (m d : ℕ) → Order m → first m d ≤ max_alphabet → d ≤ 16
shallow m d o h =
    elim (dec_le d 16) [
      | yes l ↦ l
      | no l ↦ absurd (omega (arith, seventeen m o, first-rises m {j = 17} {k = d} (omega arith)))
    ]

-- s bits stand before, and w is at least the first number of the codewords that go on
module _ (m s w : ℕ) (o : Order m) (low : first m (s + 1) ≤ w) (h : w ≤ max_alphabet) where
  pub deep : s + 1 + m ≤ 47
  deep = first-within m o (s + 1) (omega arith)

  pub step_small : F m (s + 1) ≤ max_alphabet
  step_small = omega (arith, F-first m (s + 1))

pub low-more : (m s w : ℕ) → first m (s + 1) ≤ w → first m (s + 1 + 1) ≤ w + F m (s + 1)
low-more m s w low = omega (arith, ap (first m) (add-one (s + 1)), first-suc m (s + 1))

-- a bit more
pub side-one : (m : ℕ) (v : Cursor) (one : Bool) (f : ℕ) → f ≡ F m (v.depth + 1) → one ≡ true
    → record { depth = v.depth + 1; next = v.next + f + f; ones = v.ones + 1; number = v.number } ≡ side_of m v one
side-one m v one f e t = rw (t, e)

pub side-zero : (m : ℕ) (v : Cursor) (one : Bool) (f : ℕ) → f ≡ F m (v.depth + 1) → one ≡ false
    → record { depth = v.depth + 1; next = v.next + f; ones = 0; number = v.next } ≡ side_of m v one
side-zero m v one f e t = rw (t, e)
