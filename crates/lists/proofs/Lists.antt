-- Lists of any elements: what the library does not have.
use mathlib.Core.Path.{◌≡◌, refl, sym, ap, ap₂, ◌∙◌}
use mathlib.Core.Bool.{Bool}
use mathlib.Core.List.{List, [], ◌∷◌, ◌++◌, append_assoc, map, map-append, flatten}
use Prim.Native.Nat.{ℕ, zero, suc, ◌+◌, ◌-◌, ◌≤◌, ◌<◌}
use native.Mathlib.Omega.{arith}
use native.Mathlib.Numerals.{add-one}
use native.Mathlib.Nat.{add-zero, zero-add, suc-add}
use lib.ListN.{length, get_or, take, drop, set, replicate, length-append}
use lib.Seq.{sets, take-nil, take-take, take-suc, take_all, drop-cons, drop_at, paste-suc}
use Rattle.lists.specs.Lists.{values_from}

module _ {A : Type 0} where
  flatten-append : (x y : List (List A)) → flatten (x ++ y) ≡ flatten x ++ flatten y
  unfolding flatten
  flatten-append [] y = refl
  flatten-append (l ∷ x) y = ap (λ (r : List A). l ++ r) (flatten-append x y) ∙ sym (append_assoc l (flatten x) (flatten y))

  pub flatten-map-append : {B : Type 0} (f : B → List A) (x y : List B) → flatten (map f (x ++ y)) ≡ flatten (map f x) ++ flatten (map f y)
  flatten-map-append f x y = ap flatten (map-append f x y) ∙ flatten-append (map f x) (map f y)

  pub set-append-add : (x y : List A) (n : ℕ) (a : A) → set (x ++ y) (length x + n) a ≡ x ++ set y n a
  set-append-add [] y n a = ap (λ (k : ℕ). set y k a) (zero-add n)
  set-append-add (b ∷ x) y n a =
      ap (λ (k : ℕ). set (b ∷ (x ++ y)) k a) (suc-add (length x) n) ∙ ap (λ (r : List A). b ∷ r) (set-append-add x y n a)

  -- a part of a part
  pub take_inner : (k o n : ℕ) (l : List A) → o + k ≤ n → take k (drop o (take n l)) ≡ take k (drop o l)
  take_inner k zero n l h = take-take k n l (omega arith)
  take_inner k (suc o) zero l h = absurd (omega arith)
  take_inner k (suc o) (suc n) [] h = refl
  take_inner k (suc o) (suc n) (x ∷ l) h = take_inner k o n l (omega arith)

  -- a loop that copies: one element more
  pub copy_more : (s d : List A) (i : ℕ) (x z : A) → i < length s → i < length d → get_or s i z ≡ x
      → set (take i s ++ drop i d) i x ≡ take (i + 1) s ++ drop (i + 1) d
  copy_more s d i x z h k q =
      let e : set (take i s ++ drop (0 + i) d) (0 + i) (get_or s i z) ≡ take (suc i) s ++ drop (0 + suc i) d =
      paste-suc d 0 s i z (omega arith) h in
      rw (add-one, ← q) (simp zero-add at e)

-- entry i of a list of values
pub values-at : {A : Type 0} (f : ℕ → A) (j n i : ℕ) (z : A) → i < n → get_or (values_from f j n) i z ≡ f (j + i)
values-at f j zero i z h = absurd (omega arith)
values-at f j (suc n) zero z h = ap f (sym (add-zero j))
values-at f j (suc n) (suc i) z h = values-at f (suc j) n i z (omega arith) ∙ ap f (omega arith)

-- one run of stores after another
pub sets-append : {A : Type 0} (l : List A) (i : ℕ) (a b : List A) → sets l i (a ++ b) ≡ sets (sets l i a) (i + length a) b
sets-append {A} l i [] b = ap (λ (k : ℕ). sets {A = A} l k b) (sym (add-zero i))
sets-append l i (x ∷ a) b =
    let e : suc i + length a ≡ i + suc (length a) = omega arith in
    sets-append (set l i x) (suc i) a b ∙ ap (λ (k : ℕ). sets (sets (set l i x) (suc i) a) k b) e

-- one element more, and what a function gives for it
module _ {A : Type 0} (l : List A) (i : ℕ) (d : A) (h : i < length l) where
  pub take_next : take (i + 1) l ≡ take i l ++ (get_or l i d ∷ [])
  take_next = rw add-one (take-suc l i d h)

  pub drop-next : {x : A} → x ≡ get_or l i d → drop i l ≡ x ∷ drop (i + 1) l
  drop-next e = rw (add-one, e) (drop-cons l i d h)

  pub map_next : (f : A → Bool) → map f (take (i + 1) l) ≡ map f (take i l) ++ (f (get_or l i d) ∷ [])
  map_next f = ap (map f) take_next ∙ map-append f (take i l) (get_or l i d ∷ [])

-- the rest of a list whose first z elements have been replaced
pub tail-part : {A : Type 0} (e l : List A) (z : ℕ) → length e ≡ z → take (length (e ++ drop z l) - z) (drop z (e ++ drop z l)) ≡ drop z l
tail-part e l z h =
    ap (take (length (e ++ drop z l) - z)) (drop_at e (drop z l) z h)
    ∙ take_all (length (e ++ drop z l) - z) (drop z l) (omega (arith, length-append e (drop z l)))

module _ {A : Type 0} where
  -- what is put after what was put
  pub sets_then : (l : List A) {l₁ l₂ : List A} (i k : ℕ) (x y : List A) → l₁ ≡ sets l i x → l₂ ≡ sets l₁ k y → k ≡ i + length x → l₂ ≡ sets l i (x ++ y)
  sets_then l i k x y e f h = f ∙ ap₂ (λ (o : List A) (j : ℕ). sets o j y) e h ∙ sym (sets-append l i x y)

  -- what is dropped of a beginning
  pub drop-take : (t n : ℕ) (l : List A) → drop t (take n l) ≡ take (n - t) (drop t l)
  drop-take zero n l = let e : n ≡ n - 0 = omega arith in ap (λ (k : ℕ). take k l) e
  drop-take (suc t) zero l = let e : 0 ≡ 0 - suc t = omega arith in ap (λ (k : ℕ). take k (drop (suc t) l)) e
  drop-take (suc t) (suc n) [] = sym (take-nil (suc n - suc t))
  drop-take (suc t) (suc n) (x ∷ l) = let e : n - t ≡ suc n - suc t = omega arith in drop-take t n l ∙ ap (λ (k : ℕ). take k (drop t l)) e

  -- an element of what a list is filled up with is what is missing there
  pub filled-default : (l : List A) (k i : ℕ) (z : A) → get_or (l ++ replicate k z) i z ≡ get_or l i z
  filled-default [] zero i z = refl
  filled-default [] (suc k) zero z = refl
  filled-default [] (suc k) (suc i) z = filled-default [] k i z
  filled-default (a ∷ l) k zero z = refl
  filled-default (a ∷ l) k (suc i) z = filled-default l k i z
