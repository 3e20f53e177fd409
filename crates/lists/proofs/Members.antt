-- The members of a list, and lists without duplicates.
use mathlib.Core.Path.{◌≡◌, refl, sym, ap, ◌∙◌, subst}
use mathlib.Core.Bool.{Bool, true, false, true≢false}
use mathlib.Core.Logic.{◌⊎◌, inl, inr, ⊎_elim, ◌↔◌, ∥∥₁_elim}
use mathlib.Core.HLevel.{⊥_prop, ¬_prop}
use mathlib.Core.List.{List, [], ◌∷◌, map, Mem, Memᴰ}
use mathlib.Core.List.Perm
use mathlib.Core.List.Pairwise
use mathlib.Core.List.{Nodup, Pairwise-map, Nodup-cons, perm_ext_iff_of_Nodup}
use mathlib.Core.List as listed
use mathlib.Core.Nat as counted
use Prim.Native.Nat.{ℕ, zero, suc}
use lib.ListN.{length}
use Rattle.lists.specs.Lists.{All, filter}
use Rattle.lists.proofs.Filter.{filter-pass, filter-fail}

-- a length of the library's kind as one of ours
abbrev native : counted.ℕ → ℕ
native counted.zero = zero
native (counted.suc n) = suc (native n)

module _ {A : Type 0} where
  native-length : (l : List A) → native (listed.length l) ≡ length l
  native-length [] = refl
  native-length (x ∷ l) = ap suc (native-length l)

  -- lists without duplicates that have the same members are equally long
  pub same-members : (a b : List A) → Nodup a → Nodup b → ((x : A) → Mem x a ↔ Mem x b) → length a ≡ length b
  unfolding perm_ext_iff_of_Nodup Perm.length-eq
  same-members a b once-a once-b h = sym (native-length a) ∙ ap native (Perm.length-eq ((perm_ext_iff_of_Nodup once-a once-b).1 h)) ∙ native-length b

  -- what holds of all, of each
  pub all_in : (P : A → Type 0) (x : A) (l : List A) → All P l → Memᴰ x l → P x
  all_in P x [] a i = absurd (mathlib.Core.List.Memᴰ.not-nil i)
  all_in P x (y ∷ l) a i = ⊎_elim (λ (e : x ≡ y). subst P (sym e) a.0) (all_in P x l a.1) (mathlib.Core.List.Memᴰ.cases_cons i)

  module _ (test : A → Bool) where
    -- the elements that pass a test
    pub filter-in : (x : A) (l : List A) → Memᴰ x (filter test l) → Memᴰ x l × (test x ≡ true)
    unfolding filter
    filter-in x [] i = absurd (mathlib.Core.List.Memᴰ.not-nil i)
    filter-in x (y ∷ l) i = go (test y) refl (filter-in x l)
      where
        go : (v : Bool) → test y ≡ v → (Memᴰ x (filter test l) → Memᴰ x l × (test x ≡ true)) → Memᴰ x (y ∷ l) × (test x ≡ true)
        go false e ih = let r = ih (rw (filter-fail test y l e) at i) in (mathlib.Core.List.Memᴰ.tail r.0, r.1)
        go true e ih =
            ⊎_elim
            (λ (d : x ≡ y). (mathlib.Core.List.Memᴰ.head d, ap test d ∙ e))
            (λ (j : Memᴰ x (filter test l)). let r = ih j in (mathlib.Core.List.Memᴰ.tail r.0, r.1))
            (mathlib.Core.List.Memᴰ.cases_cons (rw (filter-pass test y l e) at i))

    pub in-filter : (x : A) (l : List A) → Memᴰ x l → test x ≡ true → Memᴰ x (filter test l)
    in-filter x [] i p = absurd (mathlib.Core.List.Memᴰ.not-nil i)
    in-filter x (y ∷ l) i p = go (test y) refl (mathlib.Core.List.Memᴰ.cases_cons i) (λ j. in-filter x l j p)
      where
        go : (v : Bool) → test y ≡ v → (x ≡ y) ⊎ Memᴰ x l → (Memᴰ x l → Memᴰ x (filter test l)) → Memᴰ x (filter test (y ∷ l))
        go true e (inl d) ih = rw (filter-pass test y l e) (mathlib.Core.List.Memᴰ.head d)
        go true e (inr j) ih = rw (filter-pass test y l e) (mathlib.Core.List.Memᴰ.tail (ih j))
        go false e (inl d) ih = absurd (true≢false (sym p ∙ ap test d ∙ e))
        go false e (inr j) ih = rw (filter-fail test y l e) (ih j)

    pub filter-once : (l : List A) → Nodup l → Nodup (filter test l)
    unfolding filter Nodup-cons
    filter-once [] h = Pairwise.nil
    filter-once (y ∷ l) h = go (test y) refl (filter-once l once.1)
      where
        once : (Mem y l → ⊥) × Nodup l
        once = Nodup-cons.0 h

        go : (v : Bool) → test y ≡ v → Nodup (filter test l) → Nodup (filter test (y ∷ l))
        go true e ih = rw (filter-pass test y l e) (Nodup-cons.1 (λ (i : Mem y (filter test l)). ∥∥₁_elim i ⊥_prop (λ j. once.0 ∣ (filter-in y l j).0 ∣₁), ih))
        go false e ih = rw (filter-fail test y l e) ih

-- as many images as elements, where a function takes no two to one
pub map-once : {A B : Type 0} (f : A → B) → ((x y : A) → f x ≡ f y → x ≡ y) → (l : List A) → Nodup l → Nodup (map f l)
map-once f same l h = (Pairwise-map (λ a b. ¬_prop) f).1 (Pairwise.imp (λ a b other e. other (same a b e)) h)
