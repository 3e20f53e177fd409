-- The listing program's input (paper 01, "The listing").
use Rattle.std.specs.Prelude.{Bool, ◌&&◌, ℕ, zero, suc, ◌/◌, ltb, length, take, drop}
use Rattle.std.specs.Str.{bytes_eq}
use mathlib.Core.List.{List, [], ◌∷◌, ◌++◌, map, flatten}
use Rattle.columns.specs.Columns.{ascii, column, decimal}

-- A line: a number right-justified with spaces in 10 columns, without leading zeros, and a line feed
abbrev pub input_line : ℕ → List ℕ
input_line n = column 10 n ++ ascii "\n"

-- The text that has a line for each number
unfoldable pub input_of : List ℕ → List ℕ
input_of ns = flatten (map input_line ns)

-- How many bytes an input has at most: the lines of an order and of the numbers of the longest row
abbrev pub max_input_bytes : ℕ
max_input_bytes = 45067

-- The numbers in the first 10 bytes of every 11, so many of them
unfoldable pub fields_of : ℕ → List ℕ → List ℕ
fields_of zero s = []
fields_of (suc k) s = decimal (take 10 s) ∷ fields_of k (drop 11 s)

-- Those of every whole 11 bytes of a text
unfoldable pub fields : List ℕ → List ℕ
fields s = fields_of (length s / 11) s

-- There is a line, and each is of the form: the text is that which has a line for each of its numbers
unfoldable pub is_input : List ℕ → Bool
is_input s = ltb 0 (length s) && bytes_eq s (input_of (fields s))
