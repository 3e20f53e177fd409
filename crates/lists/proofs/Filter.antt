-- The elements of a list that pass a test.
use mathlib.Core.Path.{◌≡◌, refl, sym, ap, ◌∙◌}
use mathlib.Core.Bool.{Bool, true, false, true≢false}
use mathlib.Core.List.{List, [], ◌∷◌, ◌++◌, append-nil}
use Prim.Native.Nat.{ℕ, ◌+◌, ◌<◌}
use lib.ListN.{length, get_or, take}
use Rattle.lists.specs.Lists.{All, filter}
use Rattle.lists.proofs.Lists.{take_next}

module _ {A : Type 0} where
  pub filter-pass : (test : A → Bool) (x : A) (l : List A) → test x ≡ true → filter test (x ∷ l) ≡ x ∷ filter test l
  unfolding filter
  filter-pass test x l e = rw (e, filter)

  pub filter-fail : (test : A → Bool) (x : A) (l : List A) → test x ≡ false → filter test (x ∷ l) ≡ filter test l
  unfolding filter
  filter-fail test x l e = rw (e, filter)

  pub filter_none : (test : A → Bool) (l : List A) → All (λ x. test x ≡ false) l → filter test l ≡ []
  filter_none test [] a = unfold filter in refl
  filter_none test (x ∷ l) a = filter-fail test x l a.0 ∙ filter_none test l a.1

  pub filter-append : (test : A → Bool) (l r : List A) → filter test (l ++ r) ≡ filter test l ++ filter test r
  filter-append test [] r = unfold filter in refl
  filter-append test (x ∷ l) r = go (test x) refl (filter-append test l r)
    where
      go : (v : Bool) → test x ≡ v → filter test (l ++ r) ≡ filter test l ++ filter test r → filter test (x ∷ (l ++ r)) ≡ filter test (x ∷ l) ++ filter test r
      go true e ih = rw (filter-pass test x (l ++ r) e, filter-pass test x l e) (ap (λ (y : List A). x ∷ y) ih)
      go false e ih = rw (filter-fail test x (l ++ r) e, filter-fail test x l e) ih

  pub filter-all : (test : A → Bool) (l : List A) → All (λ x. test x ≡ true) l → filter test l ≡ l
  filter-all test [] a = unfold filter in refl
  filter-all test (x ∷ l) a = filter-pass test x l a.0 ∙ ap (λ (y : List A). x ∷ y) (filter-all test l a.1)

  -- what passes a test and one more
  pub filter-within : (test more : A → Bool) → ((x : A) → test x ≡ true → more x ≡ true) → (l : List A) → filter test (filter more l) ≡ filter test l
  filter-within test more f [] = unfold filter in refl
  filter-within test more f (x ∷ l) = go (test x) refl (more x) refl (filter-within test more f l)
    where
      go : (v : Bool) → test x ≡ v → (w : Bool) → more x ≡ w → filter test (filter more l) ≡ filter test l → filter test (filter more (x ∷ l)) ≡ filter test (x ∷ l)
      go true e true d ih =
          ap (filter test) (filter-pass more x l d) ∙ filter-pass test x (filter more l) e ∙ ap (λ (y : List A). x ∷ y) ih ∙ sym (filter-pass test x l e)
      go true e false d ih = absurd (true≢false (sym (f x e) ∙ d))
      go false e true d ih = ap (filter test) (filter-pass more x l d) ∙ filter-fail test x (filter more l) e ∙ ih ∙ sym (filter-fail test x l e)
      go false e false d ih = ap (filter test) (filter-fail more x l d) ∙ ih ∙ sym (filter-fail test x l e)

  pub all_filter : (P : A → Type 0) (test : A → Bool) (l : List A) → All P l → All (λ x. P x × (test x ≡ true)) (filter test l)
  all_filter P test [] a = unfold filter in tt
  all_filter P test (x ∷ l) a = go (test x) refl (all_filter P test l a.1)
    where
      go : (v : Bool) → test x ≡ v → All (λ x. P x × (test x ≡ true)) (filter test l) → All (λ x. P x × (test x ≡ true)) (filter test (x ∷ l))
      go true e ih = rw (filter-pass test x l e) ((a.0, e), ih)
      go false e ih = rw (filter-fail test x l e) ih

-- one element more, and whether it passes
module _ {A : Type 0} (l : List A) (i : ℕ) (d : A) (h : i < length l) where
  one-pass : (test : A → Bool) → test (get_or l i d) ≡ true → filter test (get_or l i d ∷ []) ≡ get_or l i d ∷ []
  unfolding filter
  one-pass test e = filter-pass test (get_or l i d) [] e

  one-fail : (test : A → Bool) → test (get_or l i d) ≡ false → filter test (get_or l i d ∷ []) ≡ []
  unfolding filter
  one-fail test e = filter-fail test (get_or l i d) [] e

  pub pass-next : (test : A → Bool) → test (get_or l i d) ≡ true → filter test (take (i + 1) l) ≡ filter test (take i l) ++ (get_or l i d ∷ [])
  pass-next test e =
      ap (filter test) (take_next l i d h) ∙ filter-append test (take i l) (get_or l i d ∷ [])
      ∙ ap (λ (r : List A). filter test (take i l) ++ r) (one-pass test e)

  pub fail-next : (test : A → Bool) → test (get_or l i d) ≡ false → filter test (take (i + 1) l) ≡ filter test (take i l)
  fail-next test e =
      ap (filter test) (take_next l i d h) ∙ filter-append test (take i l) (get_or l i d ∷ [])
      ∙ ap (λ (r : List A). filter test (take i l) ++ r) (one-fail test e) ∙ append-nil (filter test (take i l))
