-- What the functions that write the bitmaps of a row promise.
use Rattle.std.specs.Prelude.{◌≡◌, Bool, not, List, [], ◌∷◌, ◌++◌, ℕ, ◌+◌, ◌-◌, ◌*◌, length}
use Rattle.std.proofs.lemmas.List.Edits.{sets}
use Rattle.lists.specs.Lists.{filter}
use Rattle.bits.specs.Bits.{bit_of, unpack}
use Rattle.codes.specs.Rows.{Positive}
use Rattle.fibonacci.specs.Code.{codeword}
use Rattle.wavelet.specs.Nodes.{is_prefix, prune}
use Rattle.wavelet.specs.Bitmaps.{joined, bitmaps}
use Rattle.wavelet.specs.Leaves.{CursorAt, Aligned}
use Rattle.wavelet.specs.declared.Cursor.{Cursor}

-- Words that have the codewords of a row's numbers, one for each
abbrev pub AllAligned : ℕ → List ℕ → List ℕ → Type 0
AllAligned m [] [] = Unit {0}
AllAligned m [] (x ∷ xs) = ⊥
AllAligned m (n ∷ row) [] = ⊥
AllAligned m (n ∷ row) (x ∷ xs) = Aligned m n x × AllAligned m row xs

-- The bit of a word after s others
abbrev pub bit_after : ℕ → ℕ → Bool
bit_after s x = bit_of x (31 - s)

-- Words partitioned by that bit, each side in its order
abbrev pub partitioned : ℕ → List ℕ → List ℕ
partitioned s xs = filter (λ x. not (bit_after s x)) xs ++ filter (bit_after s) xs

-- How many bits the bitmaps of k numbers take at most below a string of s bits
abbrev pub room : ℕ → ℕ → ℕ
room s k = (16 - s) * k

-- The cursor stands at the string q, and the words have the codewords of those numbers of a row whose codewords begin with q
abbrev pub WordsAt : ℕ → ℕ → ℕ → List Bool → Cursor → List ℕ → List ℕ → Type 0
WordsAt m N f q v row xs = CursorAt m N f q v × Positive row × AllAligned m (filter (λ n. is_prefix q (codeword m n)) row) xs

-- .. of some string of the tree and some row
abbrev pub HasWords : ℕ → ℕ → Cursor → List ℕ → Type 0
HasWords m N v xs = (f : ℕ) × (q : List Bool) × (row : List ℕ) × WordsAt m N f q v row xs

-- What writing words below a string writes from bit `at` on, up to bit `end`: the bitmaps there of any row whose numbers below the string the words are
abbrev pub WritesSubtree : ℕ → ℕ → Cursor → List ℕ → ℕ → List ℕ → ℕ → List ℕ → Type 0
WritesSubtree m N v xs at before end after =
    (f : ℕ) (q : List Bool) (row : List ℕ) → WordsAt m N f q v row xs
    → (end ≡ at + length (joined m (prune m N f q) row)) × (unpack after ≡ sets (unpack before) at (joined m (prune m N f q) row))

-- The words have the codewords of the numbers of some row
abbrev pub HasRow : ℕ → List ℕ → Type 0
HasRow m xs = (row : List ℕ) × Positive row × AllAligned m row xs

-- So from the front, for the whole tree: the bitmaps of any row whose numbers the words are, so many bits
abbrev pub WritesBitmaps : ℕ → ℕ → List ℕ → List ℕ → ℕ → List ℕ → Type 0
WritesBitmaps m N xs before bits after =
    (row : List ℕ) → Positive row → AllAligned m row xs
    → (bits ≡ length (bitmaps m N row)) × (unpack after ≡ sets (unpack before) 0 (bitmaps m N row))
