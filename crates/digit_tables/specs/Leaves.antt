-- What the digits of a number are worth, eight at once: the tables of byte values.
use Rattle.std.specs.Prelude.{List, ℕ, ◌+◌, ◌*◌, ◌/◌, ◌%◌, min}
use Rattle.lists.specs.Lists.{values_from}
use Rattle.bits.specs.Bits.{word_bits}
use Rattle.fibonacci.specs.Code.{value}
use Rattle.calls.specs.Limits.{max_number}

-- Entry 256 c + b of the table for order m: what the byte b is worth as byte c of the digits, digit 8 c + 1 on its top; the largest number where that is
-- above
unfoldable pub byte_value : ℕ → ℕ → ℕ
byte_value m i = min max_number (value m (8 * (i / 256) + 1) (word_bits 8 (i % 256)))

-- The table: six bytes of digits, as no codeword of a legal number has more than 46 bits before its last ones
unfoldable pub byte_values : ℕ → List ℕ
unfolding byte_value
byte_values m = values_from (byte_value m) 0 1536
