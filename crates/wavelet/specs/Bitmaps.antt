-- The bitmaps of a row, and the row that bitmaps hold (paper 01, "The row index").
use Rattle.std.specs.Prelude.{Bool, true, false, ◌&&◌, ℕ, ◌+◌, eqb, length, get_or, take, drop, replicate}
use mathlib.Core.List.{List, [], ◌∷◌, map, flatten}
use Rattle.lists.specs.Lists.{filter}
use Rattle.bits.specs.Bits.{unpack, byte_count, pack, count}
use Rattle.fibonacci.specs.Code.{codeword}
use Rattle.wavelet.specs.Nodes.{is_prefix, Tree, leaf, node, tree, nodes}

-- ## From a row to bits

-- The bitmap of a node p: for each row number whose codeword begins with p, in row order, the next bit
unfoldable pub bitmap : ℕ → List ℕ → List Bool → List Bool
bitmap m row p = map (λ n. get_or (codeword m n) (length p) false) (filter (λ n. is_prefix p (codeword m n)) row)

-- The bitmaps of a tree's nodes, joined in their order
unfoldable pub joined : ℕ → Tree → List ℕ → List Bool
joined m t row = flatten (map (bitmap m row) (nodes t))

-- The bitmaps of a row (paper 01: the stream)
unfoldable pub bitmaps : ℕ → ℕ → List ℕ → List Bool
bitmaps m N row = joined m (tree m N) row

-- The index of a row: its bitmaps, packed like an encoding, the last byte filled up with zeros
unfoldable pub index : ℕ → ℕ → List ℕ → List ℕ
index m N row = pack (bitmaps m N row)

-- ## From bits to a row. Lengths follow from the row's length and the bitmaps above: a node's bitmap has a bit for each number below it, its 0 side has
-- as many numbers as that has zeros, and its 1 side as many as it has ones

-- How many bits the bitmaps of k numbers need, by the bits themselves
unfoldable pub need : Tree → ℕ → List Bool → ℕ
need (leaf n) k b = 0
need (node p z o) k b =
    let zeros = need z (count false (take k b)) (drop k b) in
    k + (zeros + need o (count true (take k b)) (drop zeros (drop k b)))

-- Each bit takes the next number of its side
unfoldable pub merge : List Bool → List ℕ → List ℕ → List ℕ
merge [] z o = []
merge (false ∷ b) z o = get_or z 0 0 ∷ merge b (drop 1 z) o
merge (true ∷ b) z o = get_or o 0 0 ∷ merge b z (drop 1 o)

-- The k numbers that bitmaps hold
unfoldable pub row_of_bitmaps : Tree → ℕ → List Bool → List ℕ
row_of_bitmaps (leaf n) k b = replicate k n
row_of_bitmaps (node p z o) k b =
    merge (take k b)
    (row_of_bitmaps z (count false (take k b)) (drop k b))
    (row_of_bitmaps o (count true (take k b)) (drop (need z (count false (take k b)) (drop k b)) (drop k b)))

-- Bytes are exactly as many as n bits need, and the padding holds no one
abbrev pub exact : ℕ → List ℕ → Bool
exact n s = eqb (byte_count n) (length s) && eqb (count true (drop n (unpack s))) 0

-- The bytes are exactly as many as the bitmaps of k numbers need, and the padding holds no one
unfoldable pub is_index : ℕ → ℕ → ℕ → List ℕ → Bool
is_index m N k s = exact (need (tree m N) k (unpack s)) s

-- The row of k numbers that the bytes of an index hold
unfoldable pub row_of_index : ℕ → ℕ → ℕ → List ℕ → List ℕ
row_of_index m N k s = row_of_bitmaps (tree m N) k (unpack s)
