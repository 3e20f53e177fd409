-- A node on a walk: the two sides of the row below it, where the walk stands on each, and what the node's bitmap says.
use mathlib.Core.Path.{◌≡◌, sym, ap, ap₂, ◌∙◌, subst}
use mathlib.Core.Bool.{Bool, true, false}
use mathlib.Core.List.{List, [], ◌∷◌, ◌++◌}
use Prim.Native.Nat.{ℕ, ◌+◌, ◌-◌, ◌≤◌, ◌<◌}
use native.Mathlib.Omega.{arith}
use lib.ListN.{length, get_or, take, drop}
use lib.Seq.{take-take, drop-drop, get_or-take, get_or-drop}
use Rattle.bits.specs.Bits.{bit_of, count, select_bit}
use Rattle.bits.proofs.Count.{count-between}
use Rattle.fibonacci.specs.Code.{codeword}
use Rattle.wavelet.specs.Nodes.{is_prefix, Tree, node, prune}
use Rattle.wavelet.specs.Bitmaps.{need, row_of_bitmaps}
use Rattle.wavelet.specs.Questions.{uses, rank_in}
use Rattle.wavelet.specs.Leaves.{CursorAt, side, visits_in, Aligned}
use Rattle.wavelet.specs.declared.Cursor.{Cursor}
use Rattle.wavelet.proofs.Strings.{begins-next}
use Rattle.wavelet.proofs.Pruned.{cursor-longer}
use Rattle.wavelet.proofs.Nodes.{cursor-under}
use Rattle.wavelet.proofs.Trees.{Under, after_zero, zero_side_row, one_side_row, extract-one, extract-zero, rank-one, rank-zero, select-one, select-zero, visits-one, visits-zero}
use Rattle.wavelet.proofs.Ends.{zeros}

-- ## A node's bitmap of k bits, of which e are ones, at bit `at`

module _ (k : ℕ) (b : List Bool) (at e : ℕ) (fits : at + k ≤ length b) (ones : e ≡ count true (take k (drop at b))) where
  abbrev here : List Bool
  here = drop at b

  -- how many numbers are on a side
  pub count-side : (a : Bool) → count a (take k here) ≡ side a (k - e) e
  count-side false = sym (zeros k b at e fits ones)
  count-side true = sym ones

  -- and which; the 1 side is read from where the 0 side ends
  pub row-side : (z o : Tree) (mid : ℕ) → mid ≡ at + k + need z (k - e) (drop (at + k) b) → (a : Bool)
      → side a (zero_side_row z k here) (one_side_row z o k here) ≡ row_of_bitmaps (side a z o) (side a (k - e) e) (drop (side a (at + k) mid) b)
  row-side z o mid after false = ap₂ (λ (n : ℕ) (l : List Bool). row_of_bitmaps z n l) (count-side false) (drop-drop k at b)
  row-side z o mid after true =
      let d : after_zero z k here ≡ drop mid b =
      ap₂ (λ (n : ℕ) (l : List Bool). drop (need z n l) l) (count-side false) (drop-drop k at b)
      ∙ drop-drop (need z (k - e) (drop (at + k) b)) (at + k) b ∙ ap (λ (i : ℕ). drop i b) (sym after) in
      ap₂ (λ (n : ℕ) (l : List Bool). row_of_bitmaps o n l) (count-side true) d

  -- how many of them stand before place i
  module _ (i : ℕ) (le : i ≤ k) where
    pub before_side : (a : Bool) → count a (take i (take k here)) ≡ count a (take i here)
    before_side a = ap (count a) (take-take i k here le)

    pub place-fits : (a : Bool) → count a (take i here) ≤ side a (k - e) e
    place-fits a =
        let n : i + (k - i) ≡ k = omega arith in
        let part : count a (take k here) ≡ count a (take i here) + count a (take (k - i) (drop i here)) =
        ap (λ (j : ℕ). count a (take j here)) (sym n) ∙ count-between a i (k - i) here in
        omega (arith, part, count-side a)

    -- place i itself
    pub place-bit : i < k → get_or (take k here) i false ≡ get_or b (at + i) false
    place-bit h = get_or-take k here i false h ∙ get_or-drop at b i false

-- ## What the row below a node answers, asked of a side

module _ (m : ℕ) (q : List Bool) (z o : Tree) (u : Under m q (node q z o)) where
  module _ (k : ℕ) (b : List Bool) (d : need (node q z o) k b ≤ length b) where
    pub extract-side : (a : Bool) (i : ℕ) → i < k → get_or (take k b) i false ≡ a
        → get_or (row_of_bitmaps (node q z o) k b) i 0 ≡ get_or (side a (zero_side_row z k b) (one_side_row z o k b)) (count a (take i (take k b))) 0
    extract-side false = extract-zero m q q z o k b u d
    extract-side true = extract-one m q q z o k b u d

    pub rank-side : (a : Bool) (n : ℕ) → is_prefix (q ++ (a ∷ [])) (codeword m n) ≡ true → (i : ℕ) → i ≤ k
        → rank_in (row_of_bitmaps (node q z o) k b) n i ≡ rank_in (side a (zero_side_row z k b) (one_side_row z o k b)) n (count a (take i (take k b)))
    rank-side false = rank-zero m q q z o k b u d
    rank-side true = rank-one m q q z o k b u d

    pub select-side : (a : Bool) (n : ℕ) → is_prefix (q ++ (a ∷ [])) (codeword m n) ≡ true → (j : ℕ)
        → select_bit true j (uses n (row_of_bitmaps (node q z o) k b)) ≡ select_bit a (select_bit true j (uses n (side a (zero_side_row z k b) (one_side_row z o k b)))) (take k b)
    select-side false = select-zero m q q z o k b u d
    select-side true = select-one m q q z o k b u d

  pub visits-side : (a : Bool) (n : ℕ) → is_prefix (q ++ (a ∷ [])) (codeword m n) ≡ true → visits_in m (node q z o) n ≡ 1 + visits_in m (side a z o) n
  visits-side false n g = omega (arith, visits-zero m q q z o u n g)
  visits-side true n g = omega (arith, visits-one m q q z o u n g)

-- ## Where a walk stands

-- the next bit of a codeword below the node says on which side it is
pub aligned-side : {m N f : ℕ} {q : List Bool} {v : Cursor} → CursorAt m N f q v → v.ones < m → v.depth < 32 → (n x : ℕ) → Aligned m n x → 1 ≤ n
    → is_prefix q (codeword m n) ≡ true → (a : Bool) → bit_of x (31 - v.depth) ≡ a → is_prefix (q ++ (a ∷ [])) (codeword m n) ≡ true
aligned-side {m} {q = q} {v} h low deep n x aligned some e a bit =
    begins-next q (codeword m n) a e (cursor-longer h low n some e) (
    ap (λ (i : ℕ). get_or (codeword m n) i false) h.long ∙ sym (aligned v.depth deep) ∙ bit)

pub node-under : {m N f : ℕ} {q : List Bool} {v : Cursor} (h : CursorAt m N f q v) (z o : Tree) → prune m N f q ≡ node q z o → Under m q (node q z o)
node-under {m} {q = q} h z o e = subst (λ (t : Tree). Under m q t) e (cursor-under h)
