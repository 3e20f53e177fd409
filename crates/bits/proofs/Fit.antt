-- The first bits of a list, and zeros where it ends before.
use mathlib.Core.Path.{◌≡◌, refl, sym, ap, ◌∙◌}
use mathlib.Core.Bool.{Bool, false}
use mathlib.Core.List.{List, [], ◌∷◌, ◌++◌, append-nil}
use Prim.Native.Nat.{ℕ, zero, suc, ◌+◌, ◌-◌, ◌≤◌}
use native.Mathlib.Omega.{arith}
use native.Mathlib.Nat.{zero-add, suc-add}
use lib.ListN.{length, take, drop, replicate}
use lib.Seq.{drop-nil}
use Rattle.bits.specs.Leaves.{fit}

pub fit-nil : (n : ℕ) → fit n [] ≡ replicate n false
unfolding fit
fit-nil zero = refl
fit-nil (suc n) = ap (λ (l : List Bool). false ∷ l) (fit-nil n)

pub fit-add : (n k : ℕ) (b : List Bool) → fit (n + k) b ≡ fit n b ++ fit k (drop n b)
unfolding fit
fit-add zero k b = ap (λ (x : ℕ). fit x b) (zero-add k)
fit-add (suc n) k [] =
    ap (λ (x : ℕ). fit x []) (suc-add n k)
    ∙ ap (λ (l : List Bool). false ∷ l) (fit-add n k [] ∙ ap (λ (l : List Bool). fit n [] ++ fit k l) (drop-nil n))
fit-add (suc n) k (a ∷ b) = ap (λ (x : ℕ). fit x (a ∷ b)) (suc-add n k) ∙ ap (λ (l : List Bool). a ∷ l) (fit-add n k b)

pub fit-long : (b : List Bool) (z : ℕ) → fit (length b + z) b ≡ b ++ replicate z false
unfolding fit
fit-long [] z = ap (λ (x : ℕ). fit x []) (zero-add z) ∙ fit-nil z
fit-long (a ∷ b) z = ap (λ (x : ℕ). fit x (a ∷ b)) (suc-add (length b) z) ∙ ap (λ (l : List Bool). a ∷ l) (fit-long b z)

pub fit-split : (n : ℕ) (p q : List Bool) → length p ≤ n → fit n (p ++ q) ≡ p ++ fit (n - length p) q
unfolding fit
fit-split n [] q h = let e : n ≡ n - 0 = omega arith in ap (λ (k : ℕ). fit k q) e
fit-split zero (a ∷ p) q h = absurd (omega arith)
fit-split (suc n) (a ∷ p) q h =
    let e : n - length p ≡ suc n - suc (length p) = omega arith in
    ap (λ (l : List Bool). a ∷ l) (fit-split n p q (omega arith) ∙ ap (λ (k : ℕ). p ++ fit k q) e)

pub fit-short : (n : ℕ) (p q : List Bool) → n ≤ length p → fit n (p ++ q) ≡ take n p
unfolding fit
fit-short zero p q h = refl
fit-short (suc n) [] q h = absurd (omega arith)
fit-short (suc n) (a ∷ p) q h = ap (λ (l : List Bool). a ∷ l) (fit-short n p q (omega arith))

pub fit-take : (n : ℕ) (b : List Bool) → n ≤ length b → fit n b ≡ take n b
fit-take n b h = ap (fit n) (sym (append-nil b)) ∙ fit-short n b [] h

-- zeros behind a list change nothing
fit-filled : (n k : ℕ) (b : List Bool) → fit n (fit k b ++ drop k b) ≡ fit n b
unfolding fit
fit-filled zero k b = refl
fit-filled (suc n) zero b = refl
fit-filled (suc n) (suc k) [] =
    ap (λ (l : List Bool). false ∷ l) (ap (λ (l : List Bool). fit n (fit k [] ++ l)) (sym (drop-nil k)) ∙ fit-filled n k [])
fit-filled (suc n) (suc k) (a ∷ b) = ap (λ (l : List Bool). a ∷ l) (fit-filled n k b)

pub fit-behind : (n k : ℕ) (a b : List Bool) → fit n (a ++ (fit k b ++ drop k b)) ≡ fit n (a ++ b)
unfolding fit
fit-behind n k [] b = fit-filled n k b
fit-behind zero k (x ∷ a) b = refl
fit-behind (suc n) k (x ∷ a) b = ap (λ (l : List Bool). x ∷ l) (fit-behind n k a b)

pub fit-zeros : (n k : ℕ) (b : List Bool) → fit n (b ++ replicate k false) ≡ fit n b
unfolding fit
fit-zeros zero k b = refl
fit-zeros (suc n) zero b = ap (fit (suc n)) (append-nil b)
fit-zeros (suc n) (suc k) [] = ap (λ (l : List Bool). false ∷ l) (fit-zeros n k [])
fit-zeros (suc n) (suc k) (a ∷ b) = ap (λ (l : List Bool). a ∷ l) (fit-zeros n (suc k) b)
