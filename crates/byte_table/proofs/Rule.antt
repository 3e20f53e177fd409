-- The table's rule, computed over the whole of it and carried to each row.
use mathlib.Core.Path.{◌≡◌, refl, sym, ap, ◌∙◌}
use mathlib.Core.List.{List, map}
use Prim.Native.Nat.{ℕ, ◌/◌, ◌%◌, ◌<◌}
use native.Mathlib.Nat.{zero-add}
use native.Mathlib.Omega.{arith}
use lib.ListN.{get_or, get_or-map}
use Rattle.lists.specs.Lists.{values_from}
use Rattle.lists.proofs.Lists.{values-at}
use Rattle.bits.specs.Bits.{bit_of, word_bits}
use Rattle.fibonacci.specs.Code.{past, F, value, first, number}
use Rattle.fibonacci.specs.Encoding.{parse, parse_after}
use Rattle.byte_table.specs.declared.Row.{Row}
use Rattle.byte_table.specs.declared.tables.TheConstants.{ROWS}
use Rattle.byte_table.specs.Leaves.{without_trailing, trailing_ones, parse_byte, finishing, inside_numbers, remains, row_of_parse, row_at, Small, IsRow}

-- The row that two words stand for
abbrev pub unpacked : ℕ × ℕ → Row
unpacked (head, tail) =
    record {
      count = head % 4;
      len = head / 4 % 16;
      coef0 = head / 64 % 512;
      coef1 = head / 32768 % 256;
      coef2 = head / 8388608 % 512;
      second = tail % 16;
      third = tail / 16 % 4;
      rest = record { len = tail / 1024 % 16; value = tail / 16384 % 262144; ones = tail / 256 % 4 };
    }

-- its values are as small as their fields
small : (words : ℕ × ℕ) → Small (unpacked words)
small (head, tail) =
    record {
      count = omega arith;
      len = omega arith;
      coef0 = omega arith;
      coef1 = omega arith;
      coef2 = omega arith;
      second = omega arith;
      third = omega arith;
      rest_len = omega arith;
      rest_value = omega arith;
      rest_ones = omega arith;
    }

-- the words of the table stand for its rows
tested : map unpacked ROWS ≡ values_from row_at 0 768
unfolding row_at row_of_parse parse_byte finishing inside_numbers remains without_trailing trailing_ones parse parse_after value number first F past word_bits bit_of
tested = refl

pub rule : (i : ℕ) → i < 768 → IsRow i (unpacked (get_or ROWS i (0, 0)))
rule i h =
    let none : ℕ × ℕ = (0, 0) in (
      sym (get_or-map unpacked ROWS i none) ∙ ap (λ (l : List Row). get_or l i (unpacked none)) tested ∙ values-at row_at 0 768 i _ h ∙ ap row_at (zero-add i),
      small (get_or ROWS i none),
    )
