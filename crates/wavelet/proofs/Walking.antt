-- Where the bitmaps below a string of the tree end, step by step.
use mathlib.Core.Path.{◌≡◌, refl, sym, ◌∙◌}
use mathlib.Core.Bool.{Bool, true, false, true≢false}
use mathlib.Core.List.{List, []}
use mathlib.Core.Logic.{◌⊎◌, inl, inr, ⊎_elim}
use Prim.Native.Nat.{ℕ, suc, ◌+◌, ◌-◌, ◌*◌, ◌≤◌, ◌<◌}
use native.Mathlib.Omega.{arith}
use native.Mathlib.Decide.{dec_le}
use lib.Dec.{leb, ltb}
use lib.ListN.{length, take, drop}
use borrow.Author.Tests.{lt-ltb, le-leb, ltb-true, leb-true}
use Rattle.std.specs.Prelude.{Option, Some, None}
use Rattle.bits.specs.Bits.{unpack, count}
use Rattle.bits.proofs.Bytes.{unpack-length}
use Rattle.fibonacci.specs.Code.{F, first, codeword}
use Rattle.calls.specs.Limits.{Order}
use Rattle.calls.proofs.Checks.{both}
use Rattle.fibonacci.proofs.Numeration.{F-pos}
use Rattle.wavelet.specs.Nodes.{is_prefix, leaf, prune}
use Rattle.wavelet.specs.Questions.{max_alphabet}
use Rattle.wavelet.specs.Leaves.{CursorAt, Root, IsCursor, SomeNode, node_test, side_of, Ends, Starts, Closes}
use Rattle.wavelet.specs.declared.Cursor.{Cursor}
use Rattle.wavelet.proofs.Pruned.{AtNode, cursor-root, cursor-low, cursor-node, cursor-high, cursor-full, high-only, full-only}
use Rattle.wavelet.proofs.Cursors.{shallow, deep, step_small}
use Rattle.wavelet.proofs.Ends.{ends-none, ends-leaf, ends-short, ends-cut, ends_on}

pub is-node : (m N : ℕ) (v : Cursor) → node_test m N v ≡ true → (v.ones < m) × (v.next ≤ N)
is-node m N v e = let b = both (ltb v.ones m) (leb v.next N) e in (ltb-true _ _ b.0, leb-true _ _ b.1)

-- where a walk begins
pub at-root : (m N : ℕ) → 1 ≤ m → 1 ≤ N → {v : Cursor} → Root v → CursorAt m N (m + N) [] v
at-root m N p h e = rw (e.0, e.1, e.2, e.3) (cursor-root m N p h)

pub is-root : (m N : ℕ) → 1 ≤ m → 1 ≤ N → {v : Cursor} → Root v → IsCursor m N v
is-root m N p h e = (m + N, [], at-root m N p h e)

-- a node of the tree, by the string that a cursor describes
pub at-node : {m N f : ℕ} {q : List Bool} {v : Cursor} → CursorAt m N f q v → node_test m N v ≡ true → AtNode m N f q v.depth v.next v.ones v.number
at-node {m} {N} {v = v} h e = let n = is-node m N v e in cursor-node h n.0 n.1

-- a string of the tree, a node of it, and its sides
pub is-low : (m N : ℕ) (v : Cursor) → IsCursor m N v → first m (v.depth + 1) ≤ v.next
is-low m N v i = cursor-low i.2

-- a node has fewer than 16 bits
pub node-shallow : (m N : ℕ) (v : Cursor) → Order m → N ≤ max_alphabet → IsCursor m N v → node_test m N v ≡ true → v.depth < 16
node-shallow m N v o most i e = omega (arith, shallow m (v.depth + 1) o (omega (arith, is-low m N v i, (is-node m N v e).1)))

-- what is looked up for the step to a side, and what it adds up
pub step_fits : (m : ℕ) (v : Cursor) → Order m → SomeNode m v
    → (v.depth + 1 + m ≤ 47) × (F m (v.depth + 1) ≤ max_alphabet) × (v.next ≤ max_alphabet) × (v.ones < m)
step_fits m v o s =
    let n = is-node m s.0 v s.3 in
    let low = is-low m s.0 v s.2 in
    let high : v.next ≤ max_alphabet = omega (arith, n.1, s.1) in
    (deep m v.depth v.next o low high, step_small m v.depth v.next o low high, high, n.0)

pub side-cursor : (m N : ℕ) (v : Cursor) (one : Bool) {u : Cursor} → IsCursor m N v → node_test m N v ≡ true → u ≡ side_of m v one → IsCursor m N u
side-cursor m N v one i e made =
    let k = at-node i.2 e in
    go one made (k.g, _, k.zero_side) (k.g, _, k.one_side)
  where
    go : (one : Bool) {u : Cursor} → u ≡ side_of m v one → IsCursor m N (side_of m v false) → IsCursor m N (side_of m v true) → IsCursor m N u
    go false made z o = rw made z
    go true made z o = rw made o

off-node : (m N : ℕ) (v : Cursor) → node_test m N v ≡ false → (m ≤ v.ones) ⊎ (N < v.next)
off-node m N v e =
    elim (dec_le m v.ones) [
      | yes l ↦ inl l
      | no l ↦
          elim (dec_le v.next N) [
            | yes d ↦ absurd (true≢false (sym (simp (lt-ltb v.ones m (omega arith), le-leb v.next N d)) ∙ e))
            | no d ↦ inr (omega arith)
          ]
    ]

pub is_leaf : (m N : ℕ) (v : Cursor) → node_test m N v ≡ false → (f : ℕ) (q : List Bool) → CursorAt m N f q v → prune m N f q ≡ leaf v.number
is_leaf m N v e f q h = ⊎_elim (cursor-full h) (cursor-high h) (off-node m N v e)

-- at a leaf only its number is left
pub leaf-only : {m N f : ℕ} {q : List Bool} {v : Cursor} → CursorAt m N f q v → node_test m N v ≡ false → (n : ℕ) → 1 ≤ n → n ≤ N
    → is_prefix q (codeword m n) ≡ true → n ≡ v.number
leaf-only {m} {N} {v = v} h e n a b g = ⊎_elim (λ l. full-only h l n a g) (λ l. high-only h l n a b g) (off-node m N v e)

module _ (m N : ℕ) (v : Cursor) (k : ℕ) (s : List ℕ) (at : ℕ) (here : at ≤ 8 * length s) where
  pub end_none : k ≡ 0 → Ends m N v k s at (Some at)
  end_none e f q h = rw e (ends-none (prune m N f q) (drop at (unpack s)) at (8 * length s) here)

  pub end-leaf : node_test m N v ≡ false → Ends m N v k s at (Some at)
  end-leaf e f q h = rw (is_leaf m N v e f q h) (ends-leaf v.number k (drop at (unpack s)) at (8 * length s) here)

  module _ (e : node_test m N v ≡ true) where
    -- its bitmap runs past the bits
    pub end_short : 8 * length s < at + k → Ends m N v k s at None
    end_short l f q h = rw (at-node h e).tree_is (ends-short q _ _ k (drop at (unpack s)) at (8 * length s) l)

    module _ (fits : at + k ≤ 8 * length s) (c : ℕ) (ones : c ≡ count true (take k (drop at (unpack s)))) where
      in-bits : at + k ≤ length (unpack s)
      in-bits = omega (arith, unpack-length s)

      -- its 0 side does
      pub end-cut : Ends m N (side_of m v false) (k - c) s (at + k) None → Ends m N v k s at None
      end-cut cut f q h =
          let t = at-node h e in
          rw t.tree_is (ends-cut q _ _ k (unpack s) at c in-bits ones (8 * length s) (cut t.g _ t.zero_side))

      -- all ends where its 1 side does
      pub end_on : (mid : ℕ) → Ends m N (side_of m v false) (k - c) s (at + k) (Some mid) → (r : Option ℕ) → Ends m N (side_of m v true) c s mid r → Ends m N v k s at r
      end_on mid zero r one f q h =
          let t = at-node h e in
          rw t.tree_is (ends_on q _ _ k (unpack s) at c in-bits ones (8 * length s) mid (zero t.g _ t.zero_side) r (one t.g _ t.one_side))

-- where they end is in the bytes
pub ends-within : (m N : ℕ) (v : Cursor) (k : ℕ) (s : List ℕ) (at end : ℕ) → IsCursor m N v → Ends m N v k s at (Some end) → end ≤ 8 * length s
ends-within m N v k s at end (f, q, h) ends = let x = ends f q h in omega arith

-- what comes before and after the side that a walk takes, where that is nothing
pub starts-now : (m N : ℕ) (v : Cursor) (k c : ℕ) (s : List ℕ) (at : ℕ) (one : Bool) → at + k ≤ 8 * length s → (one ≡ false) ⊎ ((one ≡ true) × (c ≡ k))
    → Starts m N v k c s at one (Some (at + k))
starts-now m N v k c s at one h (inl e) = rw e refl
starts-now m N v k c s at one h (inr (e, all)) = rw e (end_none m N (side_of m v false) (k - c) s (at + k) h (omega arith))

pub closes_now : (m N : ℕ) (v : Cursor) (c : ℕ) (s : List ℕ) (at : ℕ) (one : Bool) → at ≤ 8 * length s → (one ≡ true) ⊎ ((one ≡ false) × (c ≡ 0))
    → Closes m N v c s at one (Some at)
closes_now m N v c s at one h (inl e) = rw e refl
closes_now m N v c s at one h (inr (e, none)) = rw e (end_none m N (side_of m v true) c s at h none)

-- where a side starts is in the bytes too
pub starts-within : (m N : ℕ) (v : Cursor) (k c : ℕ) (s : List ℕ) (at : ℕ) (one : Bool) (start : ℕ) → IsCursor m N v → node_test m N v ≡ true → at + k ≤ 8 * length s
    → Starts m N v k c s at one (Some start) → start ≤ 8 * length s
starts-within m N v k c s at false start i test fits e = let same : start ≡ at + k = cc in omega arith
starts-within m N v k c s at true start i test fits e =
    ends-within m N (side_of m v false) (k - c) s (at + k) start (side-cursor m N v false i test refl) e

-- a side has a larger next number
pub less : (m N : ℕ) (v : Cursor) (one : Bool) {u : Cursor} (t : ℕ) → suc N - v.next ≡ t → u ≡ side_of m v one → 1 ≤ m → node_test m N v ≡ true → suc N - u.next < t
less m N v false t e h o test = rw h (omega (arith, (is-node m N v test).1, F-pos m (v.depth + 1) o))
less m N v true t e h o test = rw h (omega (arith, (is-node m N v test).1, F-pos m (v.depth + 1) o))
