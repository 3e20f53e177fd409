-- The nodes of the row index (paper 01, "The row index"; source 000, section 4: the pruned Wavelet tree), for any order m and any alphabet 1 .. N.
use Rattle.std.specs.Prelude.{Bool, true, false, ◌&&◌, List, [], ◌∷◌, ◌++◌, map, ℕ, zero, suc, ◌+◌, leb, length}
use Rattle.lists.specs.Lists.{filter, values_from}
use Rattle.bits.specs.Bits.{same_bit}
use Rattle.fibonacci.specs.Code.{number, codeword}

-- p is the first bits of b, perhaps none or all of them
unfoldable pub is_prefix : List Bool → List Bool → Bool
is_prefix [] b = true
is_prefix (a ∷ p) [] = false
is_prefix (a ∷ p) (c ∷ b) = same_bit a c && is_prefix p b

-- Some of the codewords of all of 1 .. N, used or not, begins with p
unfoldable pub begins_some : ℕ → ℕ → List Bool → Bool
begins_some m N p = leb 1 (length (filter (λ n. is_prefix p (codeword m n)) (values_from (λ n. n) 1 N)))

-- A node (paper 01: fork): a bit string, perhaps empty, after which both a 0 and a 1 continue some of these codewords
unfoldable pub is_node : ℕ → ℕ → List Bool → Bool
is_node m N p = begins_some m N (p ++ (false ∷ [])) && begins_some m N (p ++ (true ∷ []))

-- ## The pruned tree

-- A number, or a node: its bit string, its 0 side and its 1 side
pub data Tree : Type 0 where
  leaf : ℕ → Tree
  node : List Bool → Tree → Tree → Tree

-- The tree after the bits p, to at most d bits more. Strings with one continuation are pruned; one with none is a codeword
unfoldable pub prune : ℕ → ℕ → ℕ → List Bool → Tree
prune m N zero p = leaf (number m p)
prune m N (suc d) p =
    elim (begins_some m N (p ++ (false ∷ []))) [
      | true ↦
          elim (begins_some m N (p ++ (true ∷ []))) [
            | true ↦ node p (prune m N d (p ++ (false ∷ []))) (prune m N d (p ++ (true ∷ [])))
            | false ↦ prune m N d (p ++ (false ∷ []))
          ]
      | false ↦
          elim (begins_some m N (p ++ (true ∷ []))) [
            | true ↦ prune m N d (p ++ (true ∷ []))
            | false ↦ leaf (number m p)
          ]
    ]

-- The tree of 1 .. N; none of its codewords has more than m + N bits
unfoldable pub tree : ℕ → ℕ → Tree
tree m N = prune m N (m + N) []

-- The nodes in the order in which their bitmaps are joined: a node, all on its 0 side, all on its 1 side
unfoldable pub nodes : Tree → List (List Bool)
nodes (leaf n) = []
nodes (node p z o) = p ∷ (nodes z ++ nodes o)

-- ## Visits

-- The beginnings of a string, from the empty one to the whole
unfoldable pub prefixes : List Bool → List (List Bool)
prefixes [] = [] ∷ []
prefixes (a ∷ b) = [] ∷ map (λ p. a ∷ p) (prefixes b)

-- The visits of a number (paper 01: looks): how many beginnings of its codeword are nodes
unfoldable pub visits : ℕ → ℕ → ℕ → ℕ
visits m N n = length (filter (is_node m N) (prefixes (codeword m n)))
