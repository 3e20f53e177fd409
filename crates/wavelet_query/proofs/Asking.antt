-- The answers of the three questions, from what their walks give.
use mathlib.Core.Path.{◌≡◌, refl, sym, ap, ◌∙◌}
use mathlib.Core.Bool.{Bool, true, false, not}
use mathlib.Core.List.{List}
use Prim.Native.Nat.{ℕ, ◌-◌, ◌<◌}
use native.Mathlib.Omega.{arith}
use native.Mathlib.Decide.{dec_le}
use lib.Dec.{leb, ltb, eqb}
use lib.ListN.{length, take, length-map}
use lib.Seq.{take_all}
use borrow.Author.Tests.{le-leb, lt-leb, leb-false, lt-ltb, le-ltb, ltb-false, not-false, eqb-false}
use Rattle.std.specs.Prelude.{Ok, Err}
use Rattle.bits.specs.Bits.{count, select_bit}
use Rattle.bits.proofs.Select.{select-found, select-none}
use Rattle.calls.specs.declared.Refusal.{Refusal}
use Rattle.calls.specs.declared.Refusal.TheVariants.{BadPlace, BadUse, OutsideAlphabet, TooFewUses}
use Rattle.calls.specs.Calls.{Outcome, check, and_then}
use Rattle.calls.specs.Limits.{is_number}
use Rattle.calls.proofs.Checks.{outside-is}
use Rattle.wavelet.specs.Bitmaps.{row_of_index}
use Rattle.wavelet.specs.Questions.{uses, rank_in, select_in, extract, rank, select}
use Rattle.wavelet_walk.specs.Leaves.{Walks}
use Rattle.wavelet_walk.specs.declared.Question.TheVariants.{Extract, Rank, Select}

-- what comes after a check matters only where it is passed
check-same : {A : Type 0} (r : Refusal) (t : Bool) (x y : Outcome A) → (t ≡ false → x ≡ y) → check r t x ≡ check r t y
check-same r true x y h = refl
check-same r false x y h = h refl

-- and a check may be written in another way
check_is : {A : Type 0} (r : Refusal) (t u : Bool) (x y : Outcome A) → t ≡ u → (u ≡ false → x ≡ y) → check r t x ≡ check r u y
check_is r t u x y e h = rw e (check-same r u x y h)

-- Each question goes on with what its walk answers, by checks of what is asked for
module _ (m N k : ℕ) (s : List ℕ) where
  pub extract_walked : (i : ℕ) (w : Outcome (ℕ × ℕ)) → Walks m N k s Extract 0 i w → extract m N k s i ≡ and_then w (λ found. check BadPlace (leb k i) (Ok found))
  unfolding extract
  extract_walked i (Err r) w = w _
  extract_walked i (Ok found) w = w.0 _ ∙ check-same BadPlace (leb k i) _ _ (λ e. ap Ok (sym (w.2 (leb-false k i e))))

  pub rank_walked : (n i : ℕ) (w : Outcome (ℕ × ℕ)) → Walks m N k s Rank n i w
      → rank m N k s n i ≡ and_then w (λ found. check (OutsideAlphabet 0) (not (is_number N n)) (check BadPlace (ltb k i) (Ok found)))
  unfolding rank
  rank_walked n i (Err r) w = w _
  rank_walked n i (Ok found) w =
      w.0 _ ∙ check_is (OutsideAlphabet 0) _ _ _ _ (sym (outside-is N n)) (λ legal.
      check-same BadPlace (ltb k i) _ _ (λ e. ap Ok (sym (w.2 (not-false _ legal, ltb-false k i e)))))

  -- the walk for the use that has j - 1 others before it: its place is in the row exactly where there are j uses
  pub select_walked : (n j : ℕ) (w : Outcome (ℕ × ℕ)) → Walks m N k s Select n (j - 1) w
      → select m N k s n j ≡ and_then w (λ found. check (OutsideAlphabet 0) (not (is_number N n)) (check BadUse (eqb j 0) (check TooFewUses (leb k found.0) (Ok found))))
  unfolding select select_in rank_in
  select_walked n j (Err r) w = w _
  select_walked n j (Ok found) w =
      w.0 _ ∙ check_is (OutsideAlphabet 0) _ _ _ _ (sym (outside-is N n)) (λ legal.
      let told = w.2 (not-false _ legal) in
      check-same BadUse (eqb j 0) _ _ (λ some. check_is TooFewUses _ _ _ _ (few (ap (λ (x : ℕ × ℕ). x.0) told) (eqb-false j 0 some)) (λ e. ap Ok (sym told))))
    where
      row : List ℕ
      row = row_of_index m N k s

      few : found.0 ≡ select_bit true (j - 1) (uses n row) → (j ≡ 0 → ⊥) → ltb (rank_in row n k) j ≡ leb k found.0
      few place some =
          let long : length (uses n row) ≡ k = length-map row (eqb n) ∙ w.1 in
          let all : take k row ≡ row = take_all k row (omega (arith, w.1)) in
          rw all (elim (dec_le j (count true (uses n row))) [
            | yes l ↦ rw (le-ltb _ j l) (sym (lt-leb k found.0 (omega (arith, place, long, select-found true (j - 1) (uses n row) (omega arith)))))
            | no l ↦ let less : count true (uses n row) < j = omega arith in rw (lt-ltb _ j less) (sym (le-leb k found.0 (omega (arith, place, long, select-none true (j - 1) (uses n row) (omega arith)))))
          ])
