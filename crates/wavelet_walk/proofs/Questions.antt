-- The questions: which of them a `_` in the code stands for, and what each is at a leaf and at a node.
use mathlib.Core.Path.{◌≡◌, refl, sym, ap, ◌∙◌}
use mathlib.Core.Bool.{Bool, true}
use mathlib.Core.List.{List, [], ◌∷◌, ◌++◌}
use Prim.Native.Nat.{ℕ, ◌+◌, ◌-◌, ◌*◌, ◌≤◌, ◌<◌}
use native.Mathlib.Omega.{arith}
use native.Mathlib.Decide.{dec_le}
use lib.ListN.{length, take, drop, replicate}
use lib.Seq.{take-take}
use Rattle.bits.specs.Bits.{unpack, count}
use Rattle.bits.proofs.Bytes.{unpack-length}
use Rattle.fibonacci.specs.Code.{codeword}
use Rattle.wavelet.specs.Nodes.{is_prefix, Tree, node}
use Rattle.wavelet.specs.Bitmaps.{need, row_of_bitmaps}
use Rattle.wavelet.specs.Questions.{rank_in}
use Rattle.wavelet.specs.Leaves.{CursorAt, side}
use Rattle.wavelet.specs.declared.Cursor.{Cursor}
use Rattle.wavelet.proofs.Merging.{rank_same, select-same, select-same-none}
use Rattle.wavelet.proofs.Trees.{Under, zero_side_row, one_side_row}
use Rattle.wavelet.proofs.Sides.{count-side, place-fits, rank-side, select-side, aligned-side}
use Rattle.wavelet_walk.specs.Leaves.{answer_of, at_leaf, InView, turn, onward, back, Goes}
use Rattle.wavelet_walk.specs.declared.Question.{Question}
use Rattle.wavelet_walk.specs.declared.Question.TheVariants.{Extract, Rank, Select}

-- ## What is in view

-- how many of the numbers before a place are on a side
pub place_onward : (s : List ℕ) (a : Bool) (at i c : ℕ) → at + i ≤ 8 * length s → c ≡ count true (take i (drop at (unpack s)))
    → side a (i - c) c ≡ count a (take i (drop at (unpack s)))
place_onward s a at i c fits ones = sym (count-side i (unpack s) at c (omega (arith, unpack-length s)) ones a)

pub view-within : (question : Question) (at i k l : ℕ) → InView question i k → at + k ≤ l → InView question (at + i) l
view-within Extract at i k l v h = omega arith
view-within Rank at i k l v h = omega arith
view-within Select at i k l v h = tt

pub view-all : (question : Question) (i k : ℕ) → i ≤ k → InView question i k
view-all Extract i k h = h
view-all Rank i k h = h
view-all Select i k h = tt

-- on a side of a node whose bitmap of k bits, of which e are ones, starts at bit `at`
pub view-side : (question : Question) (k : ℕ) (b : List Bool) (at e : ℕ) → at + k ≤ length b → e ≡ count true (take k (drop at b)) → (i : ℕ) → InView question i k
    → (a : Bool) → InView question (onward question a (drop at b) i) (side a (k - e) e)
view-side Extract k b at e fits ones i v a = place-fits k b at e fits ones i v a
view-side Rank k b at e fits ones i v a = place-fits k b at e fits ones i v a
view-side Select k b at e fits ones i v a = tt

-- ## What is answered

-- of a row of one number
pub answer-same : (question : Question) (n k i : ℕ) → InView question i k → at_leaf question n k i ≡ answer_of question n i (replicate k n)
answer-same Extract n k i v = refl
answer-same Rank n k i v = sym (rank_same k n i v)
answer-same Select n k i v = elim (dec_le k i) [ yes h ↦ omega (arith, select-same-none k n i h) | no h ↦ omega (arith, select-same k n i (omega arith)) ]

-- of the row below a node, by the side of the number
pub answer-side : (question : Question) (m : ℕ) (q : List Bool) (z o : Tree) → Under m q (node q z o) → (k : ℕ) (b : List Bool) → need (node q z o) k b ≤ length b
    → (a : Bool) (n : ℕ) → is_prefix (q ++ (a ∷ [])) (codeword m n) ≡ true → (i : ℕ) → InView question i k
    → answer_of question n i (row_of_bitmaps (node q z o) k b) ≡ back question a (take k b) (answer_of question n (onward question a b i) (side a (zero_side_row z k b) (one_side_row z o k b)))
answer-side Extract m q z o u k b d a n g i v = refl
answer-side Rank m q z o u k b d a n g i v =
    rank-side m q z o u k b d a n g i v
    ∙ ap (λ (l : List Bool). rank_in (side a (zero_side_row z k b) (one_side_row z o k b)) n (count a l)) (take-take i k b v)
answer-side Select m q z o u k b d a n g i v = select-side m q z o u k b d a n g i

-- the codeword goes on to the side taken
pub goes-side : (question : Question) {m N f : ℕ} {q : List Bool} {v : Cursor} → CursorAt m N f q v → v.ones < m → v.depth < 32 → (x n : ℕ) → Goes question m N q x n
    → (s : List ℕ) (at i : ℕ) (a : Bool) → turn question x s at i v.depth ≡ a → Goes question m N (q ++ (a ∷ [])) x n
goes-side Extract h low deep x n g s at i a way = absurd g
goes-side Rank h low deep x n g s at i a way = (g.0, g.1, g.2, aligned-side h low deep n x g.0 g.1 g.3 a way)
goes-side Select h low deep x n g s at i a way = (g.0, g.1, g.2, aligned-side h low deep n x g.0 g.1 g.3 a way)
