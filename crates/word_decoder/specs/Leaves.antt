-- Codewords taken out of a string of bits, by words of 64 of them.
use Rattle.std.specs.Prelude.{◌≡◌, ◌⊎◌, Bool, true, false, List, [], ◌∷◌, ◌++◌, ℕ, ◌+◌, ◌-◌, ◌*◌, ◌/◌, ◌%◌, ◌≤◌, ◌<◌, min, length, take, drop, get_or, Option, None, Some}
use Rattle.std.proofs.Math.Seq.{slice}
use Rattle.lists.specs.Lists.{sum}
use Rattle.bits.specs.Bits.{word_bits}
use Rattle.fibonacci.specs.Code.{runs, Codeword, number}
use Rattle.fibonacci.specs.Encoding.{row_bits}
use Rattle.calls.specs.Limits.{Legal, max_count}
use Rattle.word_windows.specs.declared.Window.{Window}
use Rattle.word_windows.specs.Leaves.{RunStarts}
use Rattle.word_decoder.specs.declared.Progress.{Progress}
use Rattle.word_decoder.specs.declared.Part.{Part}
use Rattle.word_decoder.specs.declared.Summary.{Summary}

-- ## What was taken

-- The bits of b from bit k up to bit e are those of a row, whose numbers go up to a limit
pub record Taken (m limit : ℕ) (b : List Bool) (k e : ℕ) (row : List ℕ) : Type 0 where
  pub bits : drop k b ≡ row_bits m row ++ drop e b
  pub legal : Legal limit row
  pub within : e ≤ length b

-- Why no codeword is taken at a bit of b
pub data Stuck (m limit : ℕ) (b : List Bool) (bit : ℕ) : Type 0 where
  -- fewer than eight bytes are left from the byte of that bit on
  short : length b < 8 * (bit / 8) + 64 → Stuck m limit b bit
  -- no codeword ends in those eight bytes: m ones in a row are not in them from that bit on
  pending : runs m (take (64 - bit % 8) (drop bit b)) ≡ 0 → Stuck m limit b bit
  -- the number of the next codeword is above the limit
  large : (size : ℕ) → Codeword m (take size (drop bit b)) → limit < number m (take size (drop bit b)) → Stuck m limit b bit

-- Why no more codewords are taken at a bit of b, where so many were taken of so many at most: as many as may be were, or no codeword is taken there
abbrev pub Stopped : ℕ → ℕ → List Bool → ℕ → ℕ → ℕ → Type 0
Stopped m limit b bit count most = (count ≡ most) ⊎ Stuck m limit b bit

-- ## A codeword

-- Up to each one of the word w its bits are those of b from bit k on
abbrev pub Windowed : List Bool → ℕ → ℕ → Type 0
Windowed b k w = (i : ℕ) → get_or (word_bits 64 w) i false ≡ true → take (i + 1) (word_bits 64 w) ≡ take (i + 1) (drop k b)

-- A window has bits of b from bit k on, and a codeword ends in it
pub record Ready (m : ℕ) (b : List Bool) (k : ℕ) (w : Window) : Type 0 where
  pub windowed : Windowed b k w.left
  pub starts_are : RunStarts m w.left w.starts
  pub some : 1 ≤ w.starts

-- There is such a window; or no codeword is taken at bit k of b
abbrev pub Filled : ℕ → ℕ → List Bool → ℕ → Option Window → Type 0
Filled m limit b k None = Stuck m limit b k
Filled m limit b k (Some w) = Ready m b k w

-- From one bit of b the number of one codeword was taken, up to another bit; or none is taken there
abbrev pub Next : ℕ → ℕ → List Bool → ℕ → ℕ → Option ℕ → Type 0
Next m limit b k e None = (e ≡ k) × Stuck m limit b k
Next m limit b k e (Some n) = Taken m limit b k e (n ∷ [])

-- ## The first codewords of an encoding

-- The codewords of a row were taken from the start of b on, up to a bit, so many
pub record DecodedPrefix (m limit : ℕ) (b : List Bool) (bit count : ℕ) (row : List ℕ) : Type 0 where
  pub taken : Taken m limit b 0 bit row
  pub many : length row ≡ count
  pub most : count ≤ max_count

-- .. and its numbers stored in a list, which begins with them then
abbrev pub StoredRow : ℕ → ℕ → List Bool → List ℕ → List ℕ → Progress → Type 0
StoredRow m limit b before after f = DecodedPrefix m limit b f.bit f.count (take f.count after) × (length after ≡ length before)

-- .. and words can take no more of them, or may not
abbrev pub RowTaken : ℕ → ℕ → List Bool → List ℕ → List ℕ → Progress → Type 0
RowTaken m limit b before after f = StoredRow m limit b before after f × Stopped m limit b f.bit f.count (min (length before) max_count)

-- ## What is told of a row

-- How many numbers, how many bits, the sum of those from one place up to but without another, the sum of all, and the bit where the one place begins, or
-- the end of the row where it has no such place
abbrev pub summary : ℕ → ℕ → ℕ → List ℕ → Summary
summary m from to row =
    record { count = length row; bits = length (row_bits m row); total = sum (slice from to row); all = sum row; start = length (row_bits m (take from row)) }

-- Where the part of a row ends that a place is in: before a span, in it, or behind it
abbrev pub EndsPart : ℕ → ℕ → ℕ → ℕ → Type 0
EndsPart from to place end = (end ≤ max_count) × (place < max_count → place < end) × (place < from → end ≤ from) × (from ≤ place → place < to → end ≤ to)

-- How much of a sum of numbers from a place on counts in a span: all of it, or nothing
abbrev pub CountsInSpan : ℕ → ℕ → ℕ → ℕ → ℕ → Type 0
CountsInSpan from to place sum r = (from ≤ place → place < to → r ≡ sum) × (place < from → r ≡ 0) × (to ≤ place → r ≡ 0) × (r ≤ sum)

-- Behind the numbers xs come the numbers ys, in a span as a whole or not at all
pub record IsPart (m from to : ℕ) (xs ys : List ℕ) (p : Part) : Type 0 where
  pub many : length ys ≡ p.count
  pub end : p.bits ≡ length (row_bits m (xs ++ ys))
  pub total : p.sum ≡ sum ys
  pub before : length xs < from → length (xs ++ ys) ≤ from
  pub inside : from ≤ length xs → length xs < to → length (xs ++ ys) ≤ to

-- From what is told of a row comes what is told of it with a part more
abbrev pub Adds : ℕ → ℕ → Summary → Part → Summary → Type 0
Adds from to f p g = (m : ℕ) (xs ys : List ℕ) → f ≡ summary m from to xs → IsPart m from to xs ys p → g ≡ summary m from to (xs ++ ys)

-- Codewords were taken from bit k of b on, as long as words can take them and so many at most, and their numbers summed
pub record Summed (m limit : ℕ) (b : List Bool) (k most : ℕ) (p : Part) : Type 0 where
  pub row : List ℕ
  pub taken : Taken m limit b k p.bits row
  pub many : length row ≡ p.count
  pub few : p.count ≤ most
  pub total : p.sum ≡ sum row
  pub stopped : Stopped m limit b p.bits p.count most

-- The codewords of a row were taken from the start of b on, and this is told of it
pub record Spanned (m limit from to : ℕ) (b : List Bool) (f : Summary) : Type 0 where
  pub row : List ℕ
  pub decoded : DecodedPrefix m limit b f.bits f.count row
  pub told : f ≡ summary m from to row

-- .. and words can take no more of them, or may not
abbrev pub SpanTaken : ℕ → ℕ → ℕ → ℕ → List Bool → Summary → Type 0
SpanTaken m limit from to b f = Spanned m limit from to b f × Stopped m limit b f.bits f.count max_count
