-- The checks from the left at finished codewords, by the numbers that have passed them: for every code.
use mathlib.Core.Path.{◌≡◌, refl, sym, ap, ◌∙◌}
use mathlib.Core.Bool.{true, false, true≢false}
use mathlib.Core.List.{List, [], ◌∷◌, ◌++◌, append-nil}
use Prim.Native.Nat.{ℕ, suc, ◌+◌, ◌≤◌, ◌<◌}
use native.Mathlib.Omega.{arith}
use native.Mathlib.Nat.{add-zero}
use native.Mathlib.Decide.{dec_le}
use lib.Dec.{leb, ltb}
use lib.ListN.{length}
use borrow.Author.Tests.{le-leb, lt-leb, leb-false, lt-ltb, le-ltb, ltb-false}
use Rattle.calls.specs.declared.Refusal.TheVariants.{TooManyCodewords, TooLarge}
use Rattle.calls.specs.Calls.{Outcome}
use Rattle.lists.specs.Lists.{All}
use Rattle.calls.specs.Limits.{is_number, Legal, max_count}
use Rattle.calls.specs.Reading.{check_finished}
use Rattle.calls.proofs.Checks.{number_is, is-number, check-passed}
use Rattle.std.specs.Prelude.{Ok, Err}

-- a legal number is not above the limit
not-above : (limit n : ℕ) → is_number limit n ≡ true → ltb limit n ≡ false
not-above limit n e = le-ltb limit n (number_is limit n e).1

-- a number from 1 up is illegal only above it
pub illegal-above : (limit n : ℕ) → 1 ≤ n → is_number limit n ≡ false → limit < n
illegal-above limit n p e =
    elim (dec_le n limit) [
      | yes h ↦ absurd (true≢false (sym (is-number limit n p h) ∙ e))
      | no h ↦ omega arith
    ]

finished-more : {A : Type 0} (limit i : ℕ) (xs ys : List ℕ) (next : Outcome A) → Legal limit xs → i + length xs ≤ max_count
    → check_finished limit i (xs ++ ys) next ≡ check_finished limit (i + length xs) ys next
unfolding check_finished
finished-more limit i [] ys next a h = ap (λ (k : ℕ). check_finished limit k ys next) (sym (add-zero i))
finished-more limit i (x ∷ xs) ys next a h =
    let k : suc i + length xs ≡ i + suc (length xs) = omega arith in
    simp (lt-leb max_count i (omega arith), not-above limit x a.0) (finished-more limit (suc i) xs ys next a.1 (omega arith)
    ∙ ap (λ (k : ℕ). check_finished limit k ys next) k)

finished-at : {A : Type 0} (limit i : ℕ) (xs ys : List ℕ) (next : Outcome A) → Legal limit xs → length xs ≡ i → i ≤ max_count
    → check_finished limit 0 (xs ++ ys) next ≡ check_finished limit i ys next
finished-at limit i xs ys next a l h =
    let e : 0 + length xs ≡ i = omega arith in
    rw (← e) (finished-more limit 0 xs ys next a (omega arith))

-- all pass
pub finished-all : {A : Type 0} (limit : ℕ) (xs : List ℕ) (next : Outcome A) → Legal limit xs → length xs ≤ max_count
    → check_finished limit 0 xs next ≡ next
unfolding check_finished
finished-all limit xs next a h =
    ap (λ (ns : List ℕ). check_finished limit 0 ns next) (sym (append-nil xs)) ∙ finished-at limit (length xs) xs [] next a refl h

many : {A : Type 0} (limit i x : ℕ) (xs : List ℕ) (next : Outcome A) → i ≡ max_count → check_finished limit i (x ∷ xs) next ≡ Err TooManyCodewords
unfolding check_finished
many limit i x xs next h = simp (le-leb max_count i (omega arith))

large : {A : Type 0} (limit i x : ℕ) (xs : List ℕ) (next : Outcome A) → i < max_count → limit < x
    → check_finished limit i (x ∷ xs) next ≡ Err (TooLarge i)
unfolding check_finished
large limit i x xs next h e = simp (lt-leb max_count i h, lt-ltb limit x e)

-- The numbers `done` have passed their checks, and the next one decides
module _ {A : Type 0} (limit : ℕ) (done : List ℕ) (legal : Legal limit done) (next : Outcome A) where
  pub finished-many : (x : ℕ) (more : List ℕ) → length done ≡ max_count → check_finished limit 0 (done ++ (x ∷ more)) next ≡ Err TooManyCodewords
  finished-many x more l = finished-at limit max_count done (x ∷ more) next legal l (omega arith) ∙ many limit max_count x more next refl

  pub finished-large : (x : ℕ) (more : List ℕ) → length done < max_count → limit < x
      → check_finished limit 0 (done ++ (x ∷ more)) next ≡ Err (TooLarge (length done))
  finished-large x more l n = finished-at limit (length done) done (x ∷ more) next legal refl (omega arith) ∙ large limit (length done) x more next l n

-- numbers that are all legal are too many
pub finished-past : {A : Type 0} (limit i : ℕ) (xs ys : List ℕ) (next : Outcome A) → Legal limit xs → i ≤ max_count → max_count < i + length xs
    → check_finished limit i (xs ++ ys) next ≡ Err TooManyCodewords
unfolding check_finished
finished-past limit i [] ys next a k h = absurd (omega arith)
finished-past limit i (x ∷ xs) ys next a k h =
    elim (dec_le max_count i) [
      | yes l ↦ simp (le-leb max_count i l)
      | no l ↦ simp (lt-leb max_count i (omega arith), not-above limit x a.0) (finished-past limit (suc i) xs ys next a.1 (omega arith) (omega arith))
    ]

-- what it says that they all passed, where they are from 1 up
pub finished-passed : {A : Type 0} (limit i : ℕ) (ns : List ℕ) (next : Outcome A) (x : A) → All (λ n. 1 ≤ n) ns → i ≤ max_count
    → check_finished limit i ns next ≡ Ok x → Legal limit ns × (i + length ns ≤ max_count) × (next ≡ Ok x)
unfolding check_finished
finished-passed limit i [] next x a h e = (tt, omega arith, e)
finished-passed limit i (n ∷ ns) next x a h e =
    let p = check-passed TooManyCodewords (leb max_count i) _ x e in
    let q = check-passed (TooLarge i) (ltb limit n) _ x p.1 in
    let r = finished-passed limit (suc i) ns next x a.1 (leb-false max_count i p.0) q.1 in
    ((is-number limit n a.0 (ltb-false limit n q.0), r.0), omega (arith, r.1), r.2)
