-- Where m ones in a row begin.
use mathlib.Core.Path.{◌≡◌, refl, ap, ◌∙◌}
use mathlib.Core.Bool.{Bool, true, false}
use mathlib.Core.List.{List, [], ◌∷◌, ◌++◌, reverse_aux, reverse, reverse_aux-eq}
use Prim.Native.Nat.{ℕ, zero, suc, ◌+◌, ◌≤◌, ◌<◌}
use native.Mathlib.Omega.{arith}
use native.Mathlib.Nat.{zero-add}
use native.Mathlib.Decide.{dec_le}
use lib.Dec.{leb}
use borrow.Author.Tests.{le-leb, lt-leb}
use Rattle.bits.specs.Bits.{bit_value}
use Rattle.fibonacci.specs.Code.{ones, leading_ones, runs}

-- ## A bit more in front

pub runs-false : (m : ℕ) (t : List Bool) → 1 ≤ m → runs m (false ∷ t) ≡ runs m t
unfolding runs
runs-false m t h = rw (lt-leb m 0 h) (zero-add _)

pub runs-true : (m : ℕ) (t : List Bool) → suc (leading_ones t) < m → runs m (true ∷ t) ≡ runs m t
unfolding runs
runs-true m t h = rw (lt-leb m (suc (leading_ones t)) h) (zero-add _)

pub runs-more : (m : ℕ) (t : List Bool) → m ≤ suc (leading_ones t) → runs m (true ∷ t) ≡ suc (runs m t)
unfolding runs
runs-more m t h = rw (le-leb m (suc (leading_ones t)) h) (omega arith)

pub runs_after : (m : ℕ) (q t : List Bool) → runs m t ≤ runs m (q ++ t)
unfolding runs
runs_after m [] t = omega arith
runs_after m (a ∷ q) t = omega (arith, runs_after m q t)

pub runs_grow : (m : ℕ) (h t : List Bool) → runs m t ≤ runs m (reverse_aux h t)
runs_grow m h t = rw reverse_aux-eq (runs_after m (reverse h) t)

-- ## Ones only

pub lead-ones : (k : ℕ) → leading_ones (ones k) ≡ k
lead-ones zero = refl
lead-ones (suc k) = ap suc (lead-ones k)

pub runs-ones : (m k : ℕ) → k < m → runs m (ones k) ≡ 0
unfolding runs
runs-ones m zero h = refl
runs-ones m (suc k) h = runs-true m (ones k) (omega (arith, lead-ones k)) ∙ runs-ones m k (omega arith)

-- so many ones, and no m in a row
pub few_ones : (m k : ℕ) → 1 ≤ m → runs m (ones k) ≡ 0 → k < m
few_ones m zero h e = h
few_ones m (suc k) h e =
    elim (dec_le m (suc k)) [
      | yes l ↦ absurd (omega (arith, runs-more m (ones k) (omega (arith, lead-ones k))))
      | no l ↦ omega arith
    ]

pub runs-all : (m : ℕ) → 1 ≤ m → runs m (ones m) ≡ 1
runs-all zero h = absurd (omega arith)
runs-all (suc m) h = runs-more (suc m) (ones m) (omega (arith, lead-ones m)) ∙ ap suc (runs-ones (suc m) m (omega arith))

-- ## A string cut at a zero, or after ones

lead-cut : (q t : List Bool) → leading_ones (q ++ (false ∷ t)) ≡ leading_ones q
lead-cut [] t = refl
lead-cut (false ∷ q) t = refl
lead-cut (true ∷ q) t = ap suc (lead-cut q t)

pub runs-cut : (m : ℕ) (q t : List Bool) → 1 ≤ m → runs m (q ++ (false ∷ t)) ≡ runs m q + runs m t
unfolding runs
runs-cut m [] t p = omega (arith, runs-false m t p)
runs-cut m (a ∷ q) t p = omega (arith, runs-cut m q t p, ap (λ (x : ℕ). bit_value (leb m x)) (lead-cut (a ∷ q) t))

pub ones-on : (k : ℕ) (t : List Bool) → ones k ++ (true ∷ t) ≡ true ∷ (ones k ++ t)
ones-on zero t = refl
ones-on (suc k) t = ap (λ (l : List Bool). true ∷ l) (ones-on k t)

lead_after : (k : ℕ) (t : List Bool) → k ≤ leading_ones (ones k ++ t)
lead_after zero t = omega arith
lead_after (suc k) t = omega (arith, lead_after k t)

-- fewer than m ones, then a zero
pub runs-reset : (m k : ℕ) (t : List Bool) → k < m → runs m (ones k ++ (false ∷ t)) ≡ runs m t
runs-reset m k t h = omega (arith, runs-cut m (ones k) t (omega arith), runs-ones m k h)

-- the m-th one
pub runs-full : (m k : ℕ) (t : List Bool) → suc k ≡ m → runs m (true ∷ (ones k ++ t)) ≡ suc (runs m (ones k ++ t))
runs-full m k t h = runs-more m (ones k ++ t) (omega (arith, lead_after k t))
