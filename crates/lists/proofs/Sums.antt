-- Sums of numbers.
use mathlib.Core.Path.{◌≡◌, refl}
use mathlib.Core.List.{List, [], ◌∷◌, ◌++◌}
use Prim.Native.Nat.{ℕ, zero, suc, ◌+◌, ◌*◌, ◌≤◌}
use native.Mathlib.Omega.{arith}
use native.Mathlib.Nat.{suc-mul}
use lib.ListN.{get_or, take, drop, replicate}
use Rattle.lists.specs.Lists.{sum}

pub sum-append : (xs ys : List ℕ) → sum (xs ++ ys) ≡ sum xs + sum ys
sum-append [] ys = omega arith
sum-append (x ∷ xs) ys = omega (arith, sum-append xs ys)

pub sum-snoc : (xs : List ℕ) (x : ℕ) → sum (xs ++ (x ∷ [])) ≡ sum xs + x
sum-snoc xs x = omega (arith, sum-append xs (x ∷ []))

pub sum-take : (n : ℕ) (l : List ℕ) → sum (take n l) ≤ sum l
sum-take zero l = omega arith
sum-take (suc n) [] = omega arith
sum-take (suc n) (x ∷ l) = omega (arith, sum-take n l)

pub sum_drop : (n : ℕ) (l : List ℕ) → sum (drop n l) ≤ sum l
sum_drop zero l = omega arith
sum_drop (suc n) [] = omega arith
sum_drop (suc n) (x ∷ l) = omega (arith, sum_drop n l)

pub sum_same : (k n : ℕ) → sum (replicate k n) ≡ k * n
sum_same zero n = omega arith
sum_same (suc k) n = omega (arith, sum_same k n, suc-mul k n)

pub sum_zeros : (i m : ℕ) → sum (take i (replicate m 0)) ≡ 0
sum_zeros zero m = refl
sum_zeros (suc i) zero = refl
sum_zeros (suc i) (suc m) = omega (arith, sum_zeros i m)

-- a sum of nothing
pub sum-none : (es : List ℕ) → sum es ≡ 0 → (i : ℕ) → get_or es i 0 ≡ 0
sum-none [] e i = refl
sum-none (x ∷ es) e zero = omega arith
sum-none (x ∷ es) e (suc i) = sum-none es (omega arith) i
