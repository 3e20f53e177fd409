-- What holds of the row index, for every order and alphabet.
use mathlib.Core.Path.{◌≡◌, sym, ap, ◌∙◌, subst}
use mathlib.Core.Bool.{true}
use mathlib.Core.List.{List, []}
use Prim.Native.Nat.{ℕ, ◌≤◌}
use native.Mathlib.Omega.{arith}
use lib.Dec.{ltb}
use lib.ListN.{length, take, drop}
use lib.Seq.{take_at}
use Rattle.bits.specs.Bits.{byte_count}
use Rattle.bits.proofs.Packing.{pack-length}
use Rattle.calls.specs.declared.Refusal.TheVariants.{NoRoom, OutsideAlphabet}
use Rattle.calls.specs.Calls.{Outcome, buffer}
use Rattle.calls.specs.Limits.{Legal}
use Rattle.calls.proofs.Checks.{check-passed, each-accepted}
use Rattle.wavelet.specs.Nodes.{tree}
use Rattle.wavelet.specs.Bitmaps.{bitmaps, index, is_index, row_of_index}
use Rattle.wavelet.specs.Questions.{check_tree, build, build_into, extract, rank, select}
use Rattle.wavelet.specs.Leaves.{Passed}
use Rattle.wavelet.proofs.Nodes.{tree-under, tree-has, tree-only, nodes_are, nodes_once, node_count, node_digits}
use Rattle.wavelet.proofs.Rows.{index_row, row_index, one_row}
use Rattle.wavelet.proofs.Answering.{tree-accepted, tree-legal, legal-order, legal-alphabet}
use Rattle.demands.specs.Index.{extract_of, rank_of, select_of, IndexDemand, AnswersAs, BuiltAnswers}
use Rattle.std.specs.Prelude.{Ok}

-- the questions asked of bytes that are the index of a row
module _ (m N : ℕ) (row s : List ℕ) (good : is_index m N (length row) s ≡ true) (same : row_of_index m N (length row) s ≡ row) where
  extract_row : (i : ℕ) → extract m N (length row) s i ≡ check_tree m N (length row) (extract_of m N row i)
  unfolding extract
  extract_row i = simp (good, same)

  rank_row : (n i : ℕ) → rank m N (length row) s n i ≡ check_tree m N (length row) (rank_of m N row n i)
  unfolding rank
  rank_row n i = simp (good, same)

  select_row : (n j : ℕ) → select m N (length row) s n j ≡ check_tree m N (length row) (select_of m N row n j)
  unfolding select
  select_row n j = simp (good, same)

pub index-demand : (m N : ℕ) → 2 ≤ m → 1 ≤ N → IndexDemand m N
index-demand m N two h =
    let p : 1 ≤ m = omega arith in
    let u = tree-under m N p h in
    let has = tree-has m N p h in
    let only = tree-only m N p h in
    let is = index_row m N u has only in
    record {
      nodes_are = nodes_are m N p h;
      nodes_once = nodes_once m [] (tree m N) u;
      node_count = node_count m N p h;
      node_digits = node_digits m N p h;
      index_row = is;
      row_index = row_index m N u has only;
      one_row = one_row m N u has only;
      extract_row = λ row l. extract_row m N row (index m N row) (is row l).0 (is row l).1;
      rank_row = λ row l. rank_row m N row (index m N row) (is row l).0 (is row l).1;
      select_row = λ row l. select_row m N row (index m N row) (is row l).0 (is row l).1;
    }

-- ## What building has written

module _ (m N : ℕ) (row before : List ℕ) (bits : ℕ) (e : build m N row (length before) ≡ Ok bits) where
  passed : Passed m N (length row) × Legal N row × (bits ≡ length (bitmaps m N row))
  unfolding build
  passed =
      let t = tree-accepted m N (length row) e in
      let n = each-accepted OutsideAlphabet N 0 row _ bits t.1 in
      let done : Ok (length (bitmaps m N row)) ≡ Ok bits = (check-passed NoRoom (ltb (length before) (length (index m N row))) _ bits n.1).1 in
      (t.0, n.0, cc)

  -- its bytes are the index
  built : take (byte_count bits) (build_into m N row before) ≡ index m N row
  unfolding build_into index
  built =
      let long : length (index m N row) ≡ byte_count bits = pack-length (bitmaps m N row) ∙ ap byte_count (sym passed.2) in
      ap (λ (o : Outcome ℕ). take (byte_count bits) (buffer o (index m N row) before)) e
      ∙ take_at (index m N row) (drop (length (index m N row)) before) (byte_count bits) long

  answers-as : AnswersAs m N row (index m N row)
  answers-as =
      let p = passed.0 in
      let d = index-demand m N (omega (arith, legal-order p)) (legal-alphabet p).0 in
      record {
        extracts = λ i. d.extract_row row passed.1 i ∙ tree-legal m N (length row) p _;
        ranks = λ n i. d.rank_row row passed.1 n i ∙ tree-legal m N (length row) p _;
        selects = λ n j. d.select_row row passed.1 n j ∙ tree-legal m N (length row) p _;
      }

pub built-answers : BuiltAnswers
built-answers m N row before bits e = subst (AnswersAs m N row) (sym (built m N row before bits e)) (answers-as m N row before bits e)
