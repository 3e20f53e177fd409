-- What holds of the row index for every order m and alphabet N (paper 01, "The row index"; demand 2: the index answers what the row itself would answer).
use Rattle.std.specs.Prelude.{◌≡◌, Bool, true, false, ◌↔◌, ℕ, suc, ◌≤◌, leb, ltb, eqb, length, get_or, take, Ok}
use mathlib.Core.List.{List, ◌∷◌, ◌++◌, Mem, Nodup}
use Rattle.bits.specs.Bits.{Bytes, byte_count}
use Rattle.fibonacci.specs.Code.{ones, runs, number}
use Rattle.calls.specs.declared.Refusal.TheVariants.{BadPlace, BadUse, OutsideAlphabet, TooFewUses}
use Rattle.calls.specs.Calls.{Outcome, check}
use Rattle.calls.specs.Limits.{is_outside, Legal}
use Rattle.wavelet.specs.Nodes.{is_node, tree, nodes, visits}
use Rattle.wavelet.specs.Bitmaps.{index, is_index, row_of_index}
use Rattle.wavelet.specs.Questions.{check_tree, build, build_into, rank_in, select_in, extract, rank, select}

-- ## What a row itself answers, with the visits of the number concerned, and the checks of what is asked for in the paper's order: 10, 8, 12

abbrev pub extract_of : ℕ → ℕ → List ℕ → ℕ → Outcome (ℕ × ℕ)
extract_of m N row i = check BadPlace (leb (length row) i) (Ok (get_or row i 0, visits m N (get_or row i 0)))

abbrev pub rank_of : ℕ → ℕ → List ℕ → ℕ → ℕ → Outcome (ℕ × ℕ)
rank_of m N row n i =
    check (OutsideAlphabet 0) (is_outside N n)
    (check BadPlace (ltb (length row) i)
    (Ok (rank_in row n i, visits m N n)))

abbrev pub select_of : ℕ → ℕ → List ℕ → ℕ → ℕ → Outcome (ℕ × ℕ)
select_of m N row n j =
    check (OutsideAlphabet 0) (is_outside N n)
    (check BadUse (eqb j 0)
    (check TooFewUses (ltb (rank_in row n (length row)) j)
    (Ok (select_in row n j, visits m N n))))

-- ## The index, for every order and alphabet

pub record IndexDemand (m N : ℕ) : Type 0 where
  -- 1. The tree's nodes are the paper's, each once, and there are N - 1
  pub nodes_are : (p : List Bool) → Mem p (nodes (tree m N)) ↔ (is_node m N p ≡ true)
  pub nodes_once : Nodup (nodes (tree m N))
  pub node_count : suc (length (nodes (tree m N))) ≡ N
  -- they are the digits of the codewords of 2 .. N
  pub node_digits : (p : List Bool) → (is_node m N p ≡ true) ↔ ((runs m p ≡ 0) × (number m (p ++ (false ∷ ones m)) ≤ N))
  -- 2. The index of a row is accepted and holds that row
  pub index_row : (row : List ℕ) → Legal N row → (is_index m N (length row) (index m N row) ≡ true) × (row_of_index m N (length row) (index m N row) ≡ row)
  -- 3. Every accepted index, whoever wrote it, is the index of one row of that length, which is the one it holds, and of no other
  pub row_index : (k : ℕ) (s : List ℕ) → Bytes s → is_index m N k s ≡ true
      → (length (row_of_index m N k s) ≡ k) × Legal N (row_of_index m N k s) × (index m N (row_of_index m N k s) ≡ s)
  pub one_row : (k : ℕ) (s row : List ℕ) → Legal N row → length row ≡ k → index m N row ≡ s → row ≡ row_of_index m N k s
  -- 4. So the questions asked of the index of a row are answered as the row itself answers them
  pub extract_row : (row : List ℕ) → Legal N row → (i : ℕ) → extract m N (length row) (index m N row) i ≡ check_tree m N (length row) (extract_of m N row i)
  pub rank_row : (row : List ℕ) → Legal N row → (n i : ℕ) → rank m N (length row) (index m N row) n i ≡ check_tree m N (length row) (rank_of m N row n i)
  pub select_row : (row : List ℕ) → Legal N row → (n j : ℕ) → select m N (length row) (index m N row) n j ≡ check_tree m N (length row) (select_of m N row n j)

-- ## Building and asking: what building writes, cut to its bytes, is accepted by the three questions, and they answer as the row itself does

pub record AnswersAs (m N : ℕ) (row s : List ℕ) : Type 0 where
  pub extracts : (i : ℕ) → extract m N (length row) s i ≡ extract_of m N row i
  pub ranks : (n i : ℕ) → rank m N (length row) s n i ≡ rank_of m N row n i
  pub selects : (n j : ℕ) → select m N (length row) s n j ≡ select_of m N row n j

abbrev pub BuiltAnswers : Type 0
BuiltAnswers = (m N : ℕ) (row before : List ℕ) (bits : ℕ) → build m N row (length before) ≡ Ok bits
    → AnswersAs m N row (take (byte_count bits) (build_into m N row before))
