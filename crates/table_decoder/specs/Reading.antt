-- Reading an encoding of order 3 by the table decoder (paper 01: the byte reader; "When a call says no": Read). The checks stand in the paper's order; it has
-- no check 1.
use Rattle.std.specs.Prelude.{◌≡◌, ℕ, ◌*◌, ◌/◌, ◌%◌, ltb, length, Ok}
use mathlib.Core.List.{List, [], ◌∷◌, map, flatten}
use Rattle.bits.specs.Bits.{unpack}
use Rattle.codes.specs.Parse.{rest}
use Rattle.fibonacci.specs.Encoding.{parse, numbers}
use Rattle.calls.specs.declared.Refusal.TheVariants.{TooManyBytes, NoRoom, BadRest}
use Rattle.calls.specs.Calls.{Outcome, check, and_then, buffer}
use Rattle.calls.specs.Limits.{max_number, max_bytes}
use Rattle.calls.specs.Reading.{check_finished, counted}
use Rattle.reading.specs.Reading.{is_bad_rest}

-- The row of the bytes: 2 more than 24,064 bytes; 4 and 7 from the left; 6 the rest has 8 bits or more or holds a one
unfoldable pub decode_table : List ℕ → Outcome (List ℕ)
decode_table s =
    check TooManyBytes (ltb max_bytes (length s))
    (check_finished max_number 0 (numbers 3 (unpack s))
    (check BadRest (is_bad_rest (rest (parse 3 (unpack s))))
    (Ok (numbers 3 (unpack s)))))

-- ## Into numbers: 5 the output is shorter than the row; else the count

unfoldable pub read_table : List ℕ → ℕ → Outcome ℕ
read_table s room = and_then (decode_table s) (counted room)

-- The output after reading
unfoldable pub read_table_into : List ℕ → List ℕ → List ℕ
read_table_into s before = buffer (read_table s (length before)) (numbers 3 (unpack s)) before

-- What is promised of the answer, and of the output before and after
abbrev pub ReadTablePromise : List ℕ → List ℕ → Outcome ℕ → List ℕ → Type 0
ReadTablePromise s before a after = (a ≡ read_table s (length before)) × (after ≡ read_table_into s before)

-- ## Into bytes, for a host: 5 there are fewer than four bytes for each number; else the count

-- A number of the row is four bytes, the lowest first
abbrev pub number_bytes : ℕ → List ℕ
number_bytes n = n % 256 ∷ n / 256 % 256 ∷ n / 65536 % 256 ∷ n / 16777216 % 256 ∷ []

unfoldable pub row_bytes : List ℕ → List ℕ
row_bytes row = flatten (map number_bytes row)

unfoldable pub read_bytes : List ℕ → ℕ → Outcome ℕ
read_bytes s room = and_then (decode_table s) (λ row.
    check NoRoom (ltb room (4 * length row))
    (Ok (length row)))

-- The output after reading
unfoldable pub read_bytes_into : List ℕ → List ℕ → List ℕ
read_bytes_into s before = buffer (read_bytes s (length before)) (row_bytes (numbers 3 (unpack s))) before

abbrev pub ReadBytesPromise : List ℕ → List ℕ → Outcome ℕ → List ℕ → Type 0
ReadBytesPromise s before a after = (a ≡ read_bytes s (length before)) × (after ≡ read_bytes_into s before)
