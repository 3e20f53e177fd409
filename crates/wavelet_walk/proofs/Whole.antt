-- What a walk of the whole index gives.
use mathlib.Core.Path.{◌≡◌, refl, sym, ap, ap₂, ◌∙◌, subst}
use mathlib.Core.Bool.{Bool, true, false}
use mathlib.Core.List.{List, []}
use Prim.Native.Nat.{ℕ, ◌+◌, min}
use native.Mathlib.Omega.{arith}
use native.Mathlib.Nat.{zero-add}
use native.Mathlib.Decide.{dec_le}
use lib.Dec.{eqb}
use lib.ListN.{length, get_or, length-map}
use Rattle.bits.specs.Bits.{unpack, select_bit}
use Rattle.bits.proofs.Bytes.{unpack-length}
use Rattle.bits.proofs.Count.{count-le}
use Rattle.bits.proofs.Select.{select-none}
use Rattle.calls.specs.declared.Refusal.TheVariants.{NotAnIndex}
use Rattle.calls.specs.Limits.{is_number}
use Rattle.calls.proofs.Checks.{number_is}
use Rattle.wavelet.specs.Nodes.{is_prefix, prune, tree, visits}
use Rattle.wavelet.specs.Bitmaps.{row_of_bitmaps, exact, is_index, row_of_index}
use Rattle.wavelet.specs.Questions.{uses, rank_in}
use Rattle.wavelet.specs.Leaves.{Passed, Aligned, Root}
use Rattle.wavelet.specs.declared.Cursor.{Cursor}
use Rattle.wavelet.proofs.Trees.{row-length}
use Rattle.wavelet.proofs.Visits.{visits-tree}
use Rattle.wavelet.proofs.Answering.{legal-order, legal-alphabet, whole, index_is, ask-not, ask-next}
use Rattle.wavelet.proofs.Walking.{at-root}
use Rattle.wavelet_walk.specs.Leaves.{Askable, Arrived, Finds, Tells, Walks}
use Rattle.wavelet_walk.specs.declared.Question.{Question}
use Rattle.wavelet_walk.specs.declared.Question.TheVariants.{Extract, Rank, Select}
use Rattle.wavelet_walk.specs.declared.Walked.{Walked}
use Rattle.std.specs.Prelude.{Ok, Err, Some}

-- a use past all places is as absent as any other
clip : (i k : ℕ) (l : List Bool) → length l ≡ k → select_bit true (min i k) l ≡ select_bit true i l
clip i k l e =
    elim (dec_le k i) [
      | yes h ↦
          select-none true (min i k) l (omega (arith, count-le true l)) ∙ sym (select-none true i l (omega (arith, count-le true l)))
      | no h ↦ let same : min i k ≡ i = omega arith in ap (λ (j : ℕ). select_bit true j l) same
    ]

pair : {a b c d : ℕ} → a ≡ c → b ≡ d → ◌≡◌ {A = ℕ × ℕ} (a, b) (c, d)
pair e f = ap₂ (λ (x y : ℕ). (x, y)) e f

-- what the row answers, from what the walk has found in it
module _ {m N k : ℕ} (p : Passed m N k) (s : List ℕ) (x : ℕ) (r : Walked) (long : length (row_of_index m N k s) ≡ k) where
  visited : (question : Question) (j c : ℕ) (a : Arrived m N [] (tree m N) (unpack s) k question x j 0 r) → a.number ≡ c → r.visits ≡ visits m N c
  visited question j c a e =
      a.visited ∙ zero-add _ ∙ sym (visits-tree m N (omega (arith, legal-order p)) (legal-alphabet p).0 a.number) ∙ ap (visits m N) e

  tells : (question : Question) (n i : ℕ) → Arrived m N [] (tree m N) (unpack s) k question x (min i k) 0 r → (is_number N n ≡ true → Aligned m n x)
      → Askable question N k n i → Tells m N (row_of_index m N k s) question n i (r.result, r.visits)
  unfolding row_of_index is_prefix
  tells Extract n i a aligned h =
      let same : min i k ≡ i = omega arith in
      let e : a.number ≡ get_or (row_of_index m N k s) i 0 = a.at_place refl (omega arith) ∙ ap (λ (j : ℕ). get_or (row_of_bitmaps (tree m N) k (unpack s)) j 0) same in
      pair (a.found ∙ e) (visited Extract (min i k) _ a e)
  tells Rank n i a aligned h =
      let same : min i k ≡ i = omega arith in
      let in-range = number_is N n h.0 in
      let e : a.number ≡ n = a.at_codeword n (aligned h.0, in-range.0, in-range.1, refl) in
      pair (a.found ∙ ap₂ (λ (y j : ℕ). rank_in (row_of_index m N k s) y j) e same) (visited Rank (min i k) n a e)
  tells Select n i a aligned h =
      let in-range = number_is N n h in
      let e : a.number ≡ n = a.at_codeword n (aligned h, in-range.0, in-range.1, refl) in
      pair
      (a.found ∙ ap (λ (y : ℕ). select_bit true (min i k) (uses y (row_of_index m N k s))) e
      ∙ clip i k (uses n (row_of_index m N k s)) (length-map (row_of_index m N k s) (eqb n) ∙ long))
      (visited Select (min i k) n a e)

-- what a walk from the root has found
module _ {m N k : ℕ} (p : Passed m N k) (s : List ℕ) {v : Cursor} (root : Root v) (question : Question) (x i n : ℕ) (r : Walked)
    (found : Finds m N v k s 0 question x (min i k) (Some r)) where
  -- whether the bytes are an index
  index : is_index m N k s ≡ exact r.end s
  index = index_is p s root (Some r.end) found.0

  pub walk-not : exact r.end s ≡ false → Walks m N k s question n i (Err NotAnIndex)
  walk-not e next = ask-not p s next (index ∙ e)

  whole_length : length (row_of_index m N k s) ≡ k
  unfolding row_of_index
  whole_length = row-length (tree m N) k (unpack s) (omega (arith, (whole p s root (Some r.end) found.0).1, unpack-length s))

  arrived : Arrived m N [] (tree m N) (unpack s) k question x (min i k) 0 r
  unfolding tree
  arrived =
      subst (λ (d : ℕ). Arrived m N [] (prune m N (m + N) []) (unpack s) k question x (min i k) d r) root.0
      (found.1 (m + N) [] (at-root m N (omega (arith, legal-order p)) (legal-alphabet p).0 root))

  pub walk-whole : exact r.end s ≡ true → (is_number N n ≡ true → Aligned m n x) → Walks m N k s question n i (Ok (r.result, r.visits))
  walk-whole e aligned =
      (λ next. ask-next p s next (index ∙ e), whole_length, λ legal. tells p s x r whole_length question n i arrived aligned legal)
