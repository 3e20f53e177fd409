-- What is written below a string: nothing for no words and at a leaf, and at a node its bitmap and what its sides write.
use mathlib.Core.Path.{◌≡◌, refl, sym, ap, ap₂, ◌∙◌, subst}
use mathlib.Core.Bool.{Bool, true, false, not}
use mathlib.Core.List.{List, [], ◌∷◌, ◌++◌, map, flatten, append_assoc}
use Prim.Native.Nat.{ℕ, suc, ◌+◌, ◌-◌, ◌*◌, ◌≤◌, ◌<◌}
use native.Mathlib.Omega.{arith}
use native.Mathlib.Nat.{add-zero, zero-add, suc-mul, mul-add}
use lib.ListN.{length, get_or, take, drop, length-map, length-append}
use lib.Seq.{sets, take_at, drop_at}
use Rattle.lists.proofs.Each.{all_map}
use Rattle.lists.specs.Lists.{All, filter}
use Rattle.lists.proofs.Filter.{all_filter, filter-pass, filter-fail, filter-within}
use Rattle.lists.proofs.Lists.{sets-append}
use Rattle.bits.specs.Bits.{unpack, count}
use Rattle.bits.proofs.Count.{count-le}
use Rattle.codes.specs.Rows.{Positive}
use Rattle.fibonacci.specs.Code.{codeword}
use Rattle.wavelet.specs.Nodes.{is_prefix, Tree, prune, tree, nodes}
use Rattle.wavelet.specs.Bitmaps.{bitmap, joined, bitmaps}
use Rattle.wavelet.specs.Leaves.{CursorAt, Aligned, side_of, Root, node_test}
use Rattle.wavelet.specs.declared.Cursor.{Cursor}
use Rattle.wavelet.specs.declared.Tree as wavelet
use Rattle.wavelet.proofs.Strings.{begins-front}
use Rattle.wavelet.proofs.Pruned.{cursor-longer}
use Rattle.wavelet.proofs.Walking.{is-node, at-root, at-node, node-shallow, is_leaf}
use Rattle.wavelet.proofs.Nodes.{cursor-under}
use Rattle.wavelet.proofs.Rows.{at, at_all, Sided, sided-longer, joined-node, joined-none}
use Rattle.wavelet_bitmaps.specs.Leaves.{AllAligned, bit_after, partitioned, room, HasWords, WritesSubtree, HasRow, WritesBitmaps}
use Rattle.bits.proofs.Count.{filter-count}

-- ## The room that bitmaps take

-- a node's bitmap, and what is left for its sides
pub room_split : (s n z o : ℕ) → s < 16 → z + o ≡ n → room s n ≡ n + (room (s + 1) z + room (s + 1) o)
room_split s n z o h e =
    let k : ℕ = 16 - (s + 1) in
    let d : 16 - s ≡ suc k = omega arith in
    ap (λ (x : ℕ). x * n) d ∙ suc-mul k n ∙ ap (λ (x : ℕ). k * x + n) (sym e) ∙ omega (arith, mul-add k z o)

pub room_own : (s n : ℕ) → s < 16 → n ≤ room s n
room_own s n h = omega (arith, room_split s n n 0 h (omega arith))

-- so for words that are split
pub room-sides : (m n : ℕ) (v x y : Cursor) (z o : ℕ) → x ≡ side_of m v false → y ≡ side_of m v true → v.depth < 16 → z + o ≡ n
    → room v.depth n ≡ n + (room x.depth z + room y.depth o)
room-sides m n v x y z o zero one h e = rw (zero, one) (room_split v.depth n z o h e)

-- a side is one bit deeper
pub side-depth : (m : ℕ) (v u : Cursor) (one : Bool) → u ≡ side_of m v one → u.depth ≡ v.depth + 1
side-depth m v u false e = ap (λ (w : Cursor). w.depth) e
side-depth m v u true e = ap (λ (w : Cursor). w.depth) e

-- ## Words and the numbers whose codewords they have

-- the bits of the words are those of the codewords
aligned-bits : (m s : ℕ) (l xs : List ℕ) → s < 32 → AllAligned m l xs → map (bit_after s) xs ≡ map (λ n. get_or (codeword m n) s false) l
aligned-bits m s [] [] h p = refl
aligned-bits m s [] (x ∷ xs) h p = absurd p
aligned-bits m s (n ∷ l) [] h p = absurd p
aligned-bits m s (n ∷ l) (x ∷ xs) h p = ap₂ (λ (a : Bool) (b : List Bool). a ∷ b) (p.0 s h) (aligned-bits m s l xs h p.1)

-- words chosen as their numbers are
aligned-filter : (m : ℕ) (f g : ℕ → Bool) (P : ℕ → Type 0) → ((n x : ℕ) → P n → Aligned m n x → f x ≡ g n) → (l xs : List ℕ) → All P l → AllAligned m l xs
    → AllAligned m (filter g l) (filter f xs)
aligned-filter m f g P same [] [] a p = unfold filter in tt
aligned-filter m f g P same [] (x ∷ xs) a p = absurd p
aligned-filter m f g P same (n ∷ l) [] a p = absurd p
aligned-filter m f g P same (n ∷ l) (x ∷ xs) a p = go (g n) refl (aligned-filter m f g P same l xs a.1 p.1)
  where
    go : (v : Bool) → g n ≡ v → AllAligned m (filter g l) (filter f xs) → AllAligned m (filter g (n ∷ l)) (filter f (x ∷ xs))
    go true e ih = rw (filter-pass g n l e, filter-pass f x xs (same n x a.0 p.0 ∙ e)) (p.0, ih)
    go false e ih = rw (filter-fail g n l e, filter-fail f x xs (same n x a.0 p.0 ∙ e)) ih

-- no words, no numbers
aligned-none : (m : ℕ) (l xs : List ℕ) → length xs ≡ 0 → AllAligned m l xs → l ≡ []
aligned-none m [] xs e p = refl
aligned-none m (n ∷ l) [] e p = absurd p
aligned-none m (n ∷ l) (x ∷ xs) e p = absurd (omega arith)

-- ## No words, and a leaf

module _ (m N : ℕ) (v : Cursor) (xs : List ℕ) (at : ℕ) (b : List ℕ) where
  -- nothing is written
  nothing : (t : Tree) (row : List ℕ) → joined m t row ≡ []
      → (at ≡ at + length (joined m t row)) × (unpack b ≡ sets (unpack b) at (joined m t row))
  nothing t row e = rw e (sym (add-zero at), refl)

  -- no numbers below a string, no bitmaps
  pub subtree-none : length xs ≡ 0 → WritesSubtree m N v xs at b at b
  subtree-none e f q row w =
      nothing (prune m N f q) row (joined-none m q (prune m N f q) (cursor-under w.0) row (aligned-none m _ xs e w.2))

  -- a leaf has none
  pub subtree-leaf : node_test m N v ≡ false → WritesSubtree m N v xs at b at b
  unfolding joined nodes flatten
  subtree-leaf e f q row w = nothing (prune m N f q) row (ap (λ (t : Tree). joined m t row) (is_leaf m N v e f q w.0))

-- ## A node

-- the sides of partitioned words
module _ (s : ℕ) (xs : List ℕ) (z : ℕ) (e : z ≡ count false (map (bit_after s) xs)) where
  zeros-long : length (filter (λ x. not (bit_after s x)) xs) ≡ z
  zeros-long = filter-count (bit_after s) xs ∙ sym e

  -- how many have a 0, those, and the others
  pub partitioned-few : z ≤ length xs
  partitioned-few = omega (arith, e, count-le false (map (bit_after s) xs), length-map xs (bit_after s))

  pub partitioned-zeros : (ys : List ℕ) → ys ≡ partitioned s xs → take z ys ≡ filter (λ x. not (bit_after s x)) xs
  partitioned-zeros ys d = ap (take z) d ∙ take_at (filter (λ x. not (bit_after s x)) xs) (filter (bit_after s) xs) z zeros-long

  pub partitioned-ones : (ys : List ℕ) → ys ≡ partitioned s xs → drop z ys ≡ filter (bit_after s) xs
  partitioned-ones ys d = ap (drop z) d ∙ drop_at (filter (λ x. not (bit_after s x)) xs) (filter (bit_after s) xs) z zeros-long

-- such a node has fewer than 16 bits
pub words-short : (t : wavelet.Tree) (v : Cursor) (xs : List ℕ) → HasWords t.order.m t.limit v xs → node_test t.order.m t.limit v ≡ true → v.depth < 16
words-short t v xs (f, q, row, (h, pos, p)) test = node-shallow t.order.m t.limit v t.order.in_use t.small.1 (f, q, h) test

module _ (m N : ℕ) (v : Cursor) (xs : List ℕ) (test : node_test m N v ≡ true) (short : v.depth < 16) where
  module _ (f : ℕ) (q : List Bool) (row : List ℕ) (pos : Positive row) (h : CursorAt m N f q v) (p : AllAligned m (filter (λ n. is_prefix q (codeword m n)) row) xs) where
    -- every number there is on a side of q
    sided : All (Sided m q) (at m q row)
    sided =
        all_map _ (Sided m q) (λ n x. sided-longer m q n x.1 (cursor-longer h (is-node m N v test).0 n x.0 x.1))
        (at m q row) (all_filter (λ n. 1 ≤ n) (λ n. is_prefix q (codeword m n)) row pos)

    -- the words' bits are the node's bitmap
    bits_are : map (bit_after v.depth) xs ≡ bitmap m row q
    unfolding bitmap
    bits_are =
        aligned-bits m v.depth (at m q row) xs (omega arith) p
        ∙ ap (λ (s : ℕ). map (λ (n : ℕ). get_or (codeword m n) s false) (at m q row)) (sym h.long)

    -- a word's bit, by its number
    bit-of : (n x : ℕ) → Aligned m n x → bit_after v.depth x ≡ get_or (codeword m n) (length q) false
    bit-of n x d = d v.depth (omega arith) ∙ ap (λ (s : ℕ). get_or (codeword m n) s false) (sym h.long)

    -- the words on each side have the codewords of its numbers
    zero-aligned : AllAligned m (at m (q ++ (false ∷ [])) row) (filter (λ x. not (bit_after v.depth x)) xs)
    zero-aligned =
        subst (λ (l : List ℕ). AllAligned m l (filter (λ x. not (bit_after v.depth x)) xs))
        (filter-within _ _ (λ n. begins-front q (codeword m n) false) row)
        (aligned-filter m _ (λ n. is_prefix (q ++ (false ∷ [])) (codeword m n)) (Sided m q) (λ n x a d. ap not (bit-of n x d) ∙ sym a.0) (at m q row) xs sided p)

    one-aligned : AllAligned m (at m (q ++ (true ∷ [])) row) (filter (bit_after v.depth) xs)
    one-aligned =
        subst (λ (l : List ℕ). AllAligned m l (filter (bit_after v.depth) xs))
        (filter-within _ _ (λ n. begins-front q (codeword m n) true) row)
        (aligned-filter m _ (λ n. is_prefix (q ++ (true ∷ [])) (codeword m n)) (Sided m q) (λ n x a d. bit-of n x d ∙ sym a.1) (at m q row) xs sided p)

  -- so there are such words on each side
  pub words-zero : HasWords m N v xs → {u : Cursor} {ys : List ℕ} → u ≡ side_of m v false → ys ≡ filter (λ x. not (bit_after v.depth x)) xs → HasWords m N u ys
  words-zero (f, q, row, (h, pos, p)) is_zero zs =
      let k = at-node h test in
      (k.g, q ++ (false ∷ []), row, (rw is_zero k.zero_side, pos, rw zs (zero-aligned f q row pos h p)))

  pub words-one : HasWords m N v xs → {u : Cursor} {ys : List ℕ} → u ≡ side_of m v true → ys ≡ filter (bit_after v.depth) xs → HasWords m N u ys
  words-one (f, q, row, (h, pos, p)) is_one os =
      let k = at-node h test in
      (k.g, q ++ (true ∷ []), row, (rw is_one k.one_side, pos, rw os (one-aligned f q row pos h p)))

  -- its bitmap from bit `at` on, then what its sides write
  module _ (at mid end : ℕ) (xz xo b0 b1 b2 b3 : List ℕ) (uz uo : Cursor)
      (is_zero : uz ≡ side_of m v false) (is_one : uo ≡ side_of m v true)
      (zs : xz ≡ filter (λ x. not (bit_after v.depth x)) xs) (os : xo ≡ filter (bit_after v.depth) xs)
      (bits : unpack b1 ≡ sets (unpack b0) at (map (bit_after v.depth) xs))
      (sz : WritesSubtree m N uz xz (at + length xs) b1 mid b2) (so : WritesSubtree m N uo xo mid b2 end b3) where
    pub subtree-node : WritesSubtree m N v xs at b0 end b3
    subtree-node f q row (h, pos, p) =
        let k = at-node h test in
        let tz : Tree = prune m N k.g (q ++ (false ∷ [])) in
        let to : Tree = prune m N k.g (q ++ (true ∷ [])) in
        let jb : List Bool = bitmap m row q in
        let jz : List Bool = joined m tz row in
        let jo : List Bool = joined m to row in
        let z = sz k.g (q ++ (false ∷ [])) row (rw is_zero k.zero_side, pos, rw zs (zero-aligned f q row pos h p)) in
        let o = so k.g (q ++ (true ∷ [])) row (rw is_one k.one_side, pos, rw os (one-aligned f q row pos h p)) in
        let all : joined m (prune m N f q) row ≡ jb ++ (jz ++ jo) = ap (λ (t : Tree). joined m t row) k.tree_is ∙ joined-node m q tz to row in
        let here : map (bit_after v.depth) xs ≡ jb = bits_are f q row pos h p in
        let long : length jb ≡ length xs = ap length (sym here) ∙ length-map xs (bit_after v.depth) in
        let first : unpack b1 ≡ sets (unpack b0) at jb = bits ∙ ap (sets (unpack b0) at) here in
        let second : unpack b2 ≡ sets (unpack b0) at (jb ++ jz) =
        z.1 ∙ ap₂ (λ (l : List Bool) (i : ℕ). sets l (at + i) jz) first (sym long) ∙ sym (sets-append (unpack b0) at jb jz) in
        let there : mid ≡ at + length (jb ++ jz) = omega (arith, z.0, length-append jb jz) in (
          omega (arith, z.0, o.0, ap length all, length-append jb (jz ++ jo), length-append jz jo),
          o.1 ∙ ap₂ (λ (l : List Bool) (i : ℕ). sets l i jo) second there ∙ sym (sets-append (unpack b0) at (jb ++ jz) jo)
              ∙ ap (sets (unpack b0) at) (append_assoc jb jz jo ∙ sym all),
        )

-- ## The whole tree

-- there are at most 16 bits for each number
pub root-room : (v : Cursor) (k : ℕ) → Root v → room v.depth k ≡ 16 * k
root-room v k r = ap (λ (s : ℕ). room s k) r.0

module _ (m N : ℕ) (p : 1 ≤ m) (h : 1 ≤ N) (v : Cursor) (r : Root v) where
  -- the words of a whole row are below its root
  pub root-words : (xs : List ℕ) → HasRow m xs → HasWords m N v xs
  root-words xs (row, pos, d) = (m + N, [], row, (at-root m N p h r, pos, rw (at_all m row) d))

  -- what is written below its root
  pub root-written : (xs before : List ℕ) (bits : ℕ) (after : List ℕ) → WritesSubtree m N v xs 0 before bits after → WritesBitmaps m N xs before bits after
  unfolding bitmaps tree
  root-written xs before bits after t row pos d =
      let x = t (m + N) [] row (at-root m N p h r, pos, rw (at_all m row) d) in
      (x.0 ∙ zero-add _, x.1)
