-- The codewords of a row as words, number by number, with the check of each.
use mathlib.Core.Path.{◌≡◌, refl, sym, subst, ◌∙◌}
use mathlib.Core.Bool.{true, false}
use mathlib.Core.List.{List, [], ◌∷◌, ◌++◌}
use Prim.Native.Nat.{ℕ, ◌+◌, ◌<◌}
use native.Mathlib.Omega.{arith}
use native.Mathlib.Numerals.{add-one}
use lib.ListN.{length, get_or, take, drop, set, drop_of_length-le}
use lib.Seq.{take-suc-set, take_all}
use Rattle.lists.proofs.Lists.{take_next}
use Rattle.calls.proofs.Checks.{not-both, accepted-one, each_more, each-fault, each-accepted}
use Rattle.calls.specs.declared.Refusal.TheVariants.{OutsideAlphabet}
use Rattle.calls.specs.Limits.{Legal, is_number, check_each}
use Rattle.wavelet.specs.Leaves.{Aligned}
use Rattle.wavelet_bitmaps.specs.Leaves.{AllAligned}
use Rattle.wavelet_build.specs.Leaves.{Fills}
use Rattle.std.specs.Prelude.{Ok, Err}

-- a number and its word more
aligned-snoc : (m : ℕ) (l xs : List ℕ) (n x : ℕ) → AllAligned m l xs → Aligned m n x → AllAligned m (l ++ (n ∷ [])) (xs ++ (x ∷ []))
aligned-snoc m [] [] n x p d = (d, tt)
aligned-snoc m [] (y ∷ xs) n x p d = absurd p
aligned-snoc m (k ∷ l) [] n x p d = absurd p
aligned-snoc m (k ∷ l) (y ∷ xs) n x p d = (p.0, aligned-snoc m l xs n x p.1 d)

-- After i numbers: none of them is at fault, and the first i words have their codewords
abbrev pub Filling : ℕ → ℕ → List ℕ → ℕ → List ℕ → Type 0
Filling m limit row i words =
    (check_each OutsideAlphabet limit 0 row (Ok (length row)) ≡ check_each OutsideAlphabet limit i (drop i row) (Ok (length row)))
    × AllAligned m (take i row) (take i words)

-- at the start
pub filling_none : (m limit : ℕ) (row words : List ℕ) → Filling m limit row 0 words
filling_none m limit row words = (refl, tt)

module _ (m limit : ℕ) (row : List ℕ) (i : ℕ) (words : List ℕ) (f : Filling m limit row i words) where
  module _ (n : ℕ) (h : i < length row) (e : n ≡ get_or row i 0) where
    -- it passes, and its word is stored
    pub filling_more : (x : ℕ) → i < length words → is_number limit n ≡ true → Aligned m n x → Filling m limit row (i + 1) (set words i x)
    filling_more x l q d = (
      f.0 ∙ each_more OutsideAlphabet limit row i n h e (Ok (length row)) q,
      rw (take_next row i 0 h, ← e, add-one, take-suc-set words i x l) (aligned-snoc m (take i row) (take i words) n x f.1 d),
    )

    -- it is at fault
    pub filling_fault : is_number limit n ≡ false → Fills m limit row words (Err (OutsideAlphabet i))
    filling_fault q = (sym (f.0 ∙ each-fault OutsideAlphabet limit row i n h e (Ok (length row)) q), λ n a. absurd (not-both a))

  -- all have passed
  pub filling_end : i ≡ length row → Fills m limit row words (Ok (length row))
  unfolding check_each
  filling_end e =
      (sym (f.0 ∙ rw (drop_of_length-le row {i = i} (omega arith))), λ n a. rw (← e) (rw (take_all i row (omega arith)) at f.1))

-- where filling accepts, the numbers are legal, and so many words have their codewords
pub filled_is : (m limit : ℕ) (row words : List ℕ) (n : ℕ) → Fills m limit row words (Ok n)
    → (n ≡ length row) × Legal limit row × AllAligned m row (take n words)
filled_is m limit row words n f =
    let a = each-accepted OutsideAlphabet limit 0 row (Ok (length row)) n (sym f.0) in
    let e : length row ≡ n = accepted-one a.1 in
    (sym e, a.0, subst (λ (k : ℕ). AllAligned m row (take k words)) e (f.1 n refl))
