-- What demand 3 says of order m (paper 00), but for its last sentence, which speaks of the two readers.
use Rattle.std.specs.Prelude.{◌≡◌, Bool, false, ◌↔◌, ℕ, suc, ◌+◌, ◌≤◌, ◌<◌, length, replicate}
use mathlib.Core.List.{List, ◌∷◌, ◌++◌, map, IsPrefix}
use Rattle.lists.specs.Lists.{sum, values_from}
use Rattle.bits.specs.Bits.{unpack, padding}
use Rattle.codes.specs.Rows.{Positive}
use Rattle.codes.specs.Parse.{Parse, parsed}
use Rattle.fibonacci.specs.Code.{F, ones, Codeword, Form, value, first, number, codeword}
use Rattle.fibonacci.specs.Encoding.{row_bits, encoding, IsParse, parse}

pub record Demand3 (m : ℕ) : Type 0 where
  -- 1. Each codeword means a number from 1 up, and each such number has exactly one codeword
  pub number_of_codeword : (w : List Bool) → Codeword m w → 1 ≤ number m w
  pub codeword_of_number : (n : ℕ) → 1 ≤ n → Codeword m (codeword m n) × (number m (codeword m n) ≡ n)
  pub no_other_codeword : (w : List Bool) (n : ℕ) → Codeword m w → number m w ≡ n → w ≡ codeword m n
  -- the codewords are those of paper 01's form: number 1 is m ones, and every other is 2 + F(1) + .. + F(s) and the value of its s digits
  pub form_of_codeword : (w : List Bool) → Codeword m w ↔ Form m w
  pub number_one : number m (ones m) ≡ 1
  pub number_digits : (q : List Bool) → number m (q ++ (false ∷ ones m)) ≡ 2 + sum (values_from (F m) 1 (length q)) + value m 1 q
  -- the codewords with d bits before their m ones are those of the numbers from the first number of d up to the next first number
  pub numbers_of_length : (w : List Bool) (d : ℕ) → Codeword m w → (length w ≡ d + m) ↔ ((first m d ≤ number m w) × (number m w < first m (suc d)))
  -- 2. Every string of bits is made of codewords and a rest without m ones in a row, and that in one way only
  pub has_parse : (b : List Bool) → IsParse m b (parse m b)
  pub no_other_parse : (b : List Bool) (s : Parse Bool) → IsParse m b s → s ≡ parse m b
  -- 3. Two rows with the same bytes are the same row; the bits of one row begin those of another exactly when the one row begins the other
  pub rows_apart : (a b : List ℕ) → Positive a → Positive b → encoding m a ≡ encoding m b → a ≡ b
  pub rows_begin : (a b : List ℕ) → Positive a → Positive b → IsPrefix (row_bits m a) (row_bits m b) ↔ IsPrefix a b
  -- 4. The parse of a row's bytes is its codewords and the padding
  pub parse_of_row : (row : List ℕ) → Positive row
      → parse m (unpack (encoding m row)) ≡ parsed (map (codeword m) row) (replicate (padding (length (row_bits m row))) false)
