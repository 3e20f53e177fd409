-- The lines of a listing (paper 01, "The listing"). Each ends in a line feed.
use Rattle.std.specs.Prelude.{List, [], ◌∷◌, ◌++◌, ℕ, suc, ◌+◌, length}
use Rattle.columns.specs.Columns.{ascii, column}
use Rattle.fibonacci.specs.Code.{codeword}

abbrev pub header : List ℕ
header = ascii "PLACE     NUMBER BITS           TOTAL\n"

-- A number's line: place in 5 columns, number in 11, codeword bits in 5, running total in 16, all right-justified
unfoldable pub row_line : ℕ → ℕ → ℕ → ℕ → List ℕ
row_line place n bits total = column 5 place ++ column 11 n ++ column 5 bits ++ column 16 total ++ ascii "\n"

-- The lines of the numbers from a place on, after so large a total
unfoldable pub row_lines : ℕ → ℕ → ℕ → List ℕ → List ℕ
row_lines m place total [] = []
row_lines m place total (n ∷ ns) = row_line place n (length (codeword m n)) (total + n) ++ row_lines m (suc place) (total + n) ns

-- The last line: the byte count of the encoding in 11 columns
unfoldable pub last_line : ℕ → List ℕ
last_line bytes = ascii "BYTES" ++ column 11 bytes ++ ascii "\n"

-- The listing of a row whose encoding has so many bytes
unfoldable pub lines : ℕ → List ℕ → ℕ → List ℕ
lines m row bytes = header ++ row_lines m 0 0 row ++ last_line bytes
