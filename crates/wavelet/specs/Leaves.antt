-- Where a walk down the tree stands, and what the functions that walk find there: for the contracts of those functions. No operation's promise cites it.
use Rattle.std.specs.Prelude.{◌≡◌, Bool, true, false, ◌&&◌, List, ◌∷◌, ◌++◌, ℕ, suc, ◌+◌, ◌-◌, ◌*◌, ◌≤◌, ◌<◌, leb, ltb, length, get_or, drop, Option, Some, None, MatchOption}
use Rattle.lists.specs.Lists.{filter}
use Rattle.bits.specs.Bits.{bit_of, unpack}
use Rattle.calls.specs.Limits.{is_order, is_number, max_count}
use Rattle.fibonacci.specs.Code.{F, ones, Codeword, number, codeword}
use Rattle.wavelet.specs.Nodes.{is_prefix, Tree, prune, nodes}
use Rattle.wavelet.specs.Bitmaps.{need}
use Rattle.wavelet.specs.Questions.{max_alphabet}
use Rattle.wavelet.specs.declared.Cursor.{Cursor}

-- How many bytes an index has at most; that none has more is a law (`index-long`)
abbrev pub max_index_bytes : ℕ
max_index_bytes = 8192

-- A legal order, alphabet and length: the check of them has passed
pub record Passed (m N k : ℕ) : Type 0 where
  pub order : is_order m ≡ true
  pub alphabet : is_number max_alphabet N ≡ true
  pub count : k ≤ max_count

-- ## A string of the tree

-- What describes a string q of the tree of 1 .. N, by which a walk knows all that it needs of it
pub record Describes (m N f : ℕ) (q : List Bool) (s w r c : ℕ) : Type 0 where
  pub order : 1 ≤ m
  -- q has s bits
  pub long : length q ≡ s
  -- it ends with r ones, and with k more it is a codeword, that of c, a number of the alphabet
  pub k : ℕ
  pub all : k + r ≡ m
  pub finished : Codeword m (q ++ ones k)
  pub number_is : number m (q ++ ones k) ≡ c
  pub small : c ≤ N
  -- with a 0 and m ones more it is that of w
  pub next_is : number m (q ++ (false ∷ ones m)) ≡ w
  -- so the codewords that q begins have at most f bits more
  pub fuel : (suc N - w) + m ≤ f

-- So a cursor describes it
abbrev pub CursorAt : ℕ → ℕ → ℕ → List Bool → Cursor → Type 0
CursorAt m N f q v = Describes m N f q v.depth v.next v.ones v.number

-- The empty string
abbrev pub Root : Cursor → Type 0
Root v = (v.depth ≡ 0) × (v.next ≡ 2) × (v.ones ≡ 0) × (v.number ≡ 1)

-- Some string of the tree of 1 .. N
abbrev pub IsCursor : ℕ → ℕ → Cursor → Type 0
IsCursor m N v = (f : ℕ) × (q : List Bool) × CursorAt m N f q v

-- The test of a node
abbrev pub node_test : ℕ → ℕ → Cursor → Bool
node_test m N v = ltb v.ones m && leb v.next N

-- A node of the tree of some alphabet
abbrev pub SomeNode : ℕ → Cursor → Type 0
SomeNode m v = (N : ℕ) × (N ≤ max_alphabet) × IsCursor m N v × (node_test m N v ≡ true)

-- What a bit chooses of two
abbrev pub side : {A : Type 0} → Bool → A → A → A
side false z o = z
side true z o = o

-- On the side of a bit
abbrev pub side_of : ℕ → Cursor → Bool → Cursor
side_of m v false = record { depth = v.depth + 1; next = v.next + F m (v.depth + 1); ones = 0; number = v.next }
side_of m v true = record { depth = v.depth + 1; next = v.next + F m (v.depth + 1) + F m (v.depth + 1); ones = v.ones + 1; number = v.number }

-- ## Where bitmaps start and end

-- Where bits end, as a place among all the bits that there are; none where they run past these
abbrev pub Place : ℕ → ℕ → Option ℕ → Type 0
Place total end r = MatchOption r (total < end) (λ x. (x ≡ end) × (end ≤ total))

-- So as a number: one more than there are bits where they run past them
abbrev pub end_in : ℕ → Option ℕ → ℕ
end_in total None = suc total
end_in total (Some end) = end

-- Where the bitmaps of k numbers below a string end that start at bit `at`, if they do not run past the bytes
abbrev pub Ends : ℕ → ℕ → Cursor → ℕ → List ℕ → ℕ → Option ℕ → Type 0
Ends m N v k s at r = (f : ℕ) (q : List Bool) → CursorAt m N f q v → Place (8 * length s) (at + need (prune m N f q) k (drop at (unpack s))) r

-- Where the bitmaps of a side of a node start: those of the 0 side after the node's own of k bits, of which e are ones; those of the 1 side where those of the 0 side end
abbrev pub Starts : ℕ → ℕ → Cursor → ℕ → ℕ → List ℕ → ℕ → Bool → Option ℕ → Type 0
Starts m N v k e s at false r = r ≡ Some (at + k)
Starts m N v k e s at true r = Ends m N (side_of m v false) (k - e) s (at + k) r

-- Where the bitmaps of a node end, once those of a side have ended at bit `at`
abbrev pub Closes : ℕ → ℕ → Cursor → ℕ → List ℕ → ℕ → Bool → Option ℕ → Type 0
Closes m N v e s at false r = Ends m N (side_of m v true) e s at r
Closes m N v e s at true r = r ≡ Some at

-- ## A number's codeword

-- How many nodes of a tree begin the codeword of n; in the whole tree these are the visits of n, which is a law (`visits-tree`)
abbrev pub visits_in : ℕ → Tree → ℕ → ℕ
visits_in m t n = length (filter (λ p. is_prefix p (codeword m n)) (nodes t))

-- x has the bits of the codeword of n from the top of 32 bits on, and then zeros
abbrev pub Aligned : ℕ → ℕ → ℕ → Type 0
Aligned m n x = (s : ℕ) → s < 32 → bit_of x (31 - s) ≡ get_or (codeword m n) s false
