-- Headers (paper 02, R-4: heads): what goes with an encoding, and what calls answer that give one.
use Rattle.std.specs.Prelude.{Bool, ◌||◌, List, ℕ, ◌*◌, min, ltb, length}
use Rattle.lists.specs.Lists.{sum}
use Rattle.fibonacci.specs.Encoding.{row_bits}
use Rattle.calls.specs.Limits.{max_count}
use Rattle.headers.specs.declared.Header.{Header}

-- A header: bits in use, count, total
abbrev pub header : ℕ → ℕ → ℕ → Header
header bits count total = record { bits = bits; count = count; total = total }

-- The header of a row in order m
abbrev pub header_of : ℕ → List ℕ → Header
header_of m row = header (length (row_bits m row)) (length row) (sum row)

-- The header before the first number; after a refusal too the three numbers are zeros
abbrev pub no_header : Header
no_header = header 0 0 0

-- How many bits an encoding may have, in any order and buffer
abbrev pub max_bits : ℕ
max_bits = 192512

-- .. in a buffer of so many bytes
unfoldable pub capacity : ℕ → ℕ
capacity room = min (8 * room) max_bits

-- The largest total of a row
abbrev pub max_total : ℕ
max_total = 17592186040320

-- 18: the bits exceed the buffer or 192,512, the count exceeds 4,096 or the total 17,592,186,040,320
unfoldable pub is_bad_header : ℕ → Header → Bool
is_bad_header room h = ltb (capacity room) h.bits || (ltb max_count h.count || ltb max_total h.total)
