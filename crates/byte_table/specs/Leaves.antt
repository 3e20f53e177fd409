-- The table of the table decoder (paper 01: the byte reader; source 001, section 3.3.2): 768 rows, one for each byte after 0, 1 or 2 trailing ones. A row
-- follows from the parse of those ones and the byte's bits, by the code of order 3.
use Rattle.std.specs.Prelude.{◌≡◌, Bool, true, false, List, [], ◌∷◌, ◌++◌, map, ℕ, zero, suc, ◌+◌, ◌-◌, ◌*◌, ◌/◌, ◌%◌, ◌^◌, ◌≤◌, ◌<◌, length, get_or, take, drop}
use Rattle.bits.specs.Bits.{word_bits}
use Rattle.codes.specs.Parse.{Parse, parsed, codewords, rest}
use Rattle.fibonacci.specs.Code.{F, ones, value, number}
use Rattle.fibonacci.specs.Encoding.{parse}
use Rattle.byte_table.specs.declared.Rest.{Rest}
use Rattle.byte_table.specs.declared.Row.{Row}

-- ## Bits and the ones at their end

-- A one put before bits from which the ones at the end were taken off. Where no bit is left, that one stands at the end too, and is taken off as well
abbrev pub prepend_one : List Bool → List Bool
prepend_one [] = []
prepend_one (a ∷ b) = true ∷ a ∷ b

-- Bits without the ones at their end
unfoldable pub without_trailing : List Bool → List Bool
without_trailing [] = []
without_trailing (false ∷ b) = false ∷ without_trailing b
without_trailing (true ∷ b) = prepend_one (without_trailing b)

-- How many ones stand at the end (paper 01: the trailing ones)
unfoldable pub trailing_ones : List Bool → ℕ
unfolding without_trailing
trailing_ones b = length b - length (without_trailing b)

-- ## Position values over whole numbers

-- F(n - 2), which is 0 at negative places
unfoldable pub two_back : ℕ → ℕ
two_back zero = 0
two_back (suc zero) = 0
two_back (suc (suc n)) = F 3 n

-- The sums of F(j), of F(j - 1) and of F(j - 2) over the bits j that are one, the first being bit 1
abbrev pub value0 : List Bool → ℕ
value0 b = value 3 1 b

abbrev pub value1 : List Bool → ℕ
value1 b = value 3 0 b

abbrev pub value2 : List Bool → ℕ
value2 b = value 3 0 (drop 1 b)

-- What bits are worth after `len` others, by what F(len), F(len - 1) and F(len - 2) are to be multiplied with: each F(len + j) is
-- F(len) F(j) + F(len - 1) (F(j - 1) + F(j - 2)) + F(len - 2) F(j - 1)
unfoldable pub moved : ℕ → ℕ → ℕ → ℕ → ℕ
unfolding two_back
moved len coef0 coef1 coef2 = F 3 len * coef0 + two_back (suc len) * coef1 + two_back len * coef2

-- ## A row

-- A byte after trailing ones, parsed
unfoldable pub parse_byte : ℕ → ℕ → Parse Bool
parse_byte run byte = parse 3 (ones run ++ word_bits 8 byte)

-- What finishes the pending codeword: the bits before the last ones of the first codeword that ends. Where none ends, what makes it longer: the bits before
-- the trailing ones
unfoldable pub finishing : Parse Bool → List Bool
unfolding without_trailing
finishing (parsed [] r) = without_trailing r
finishing (parsed (w ∷ ws) r) = take (length w - 3) w

-- The numbers of the codewords that lie inside the byte
unfoldable pub inside_numbers : Parse Bool → List ℕ
inside_numbers p = map (number 3) (drop 1 (codewords p))

-- What remains: length, value, trailing ones
unfoldable pub remains : List Bool → Rest
unfolding without_trailing trailing_ones
remains r = record { len = length (without_trailing r); value = value0 (without_trailing r); ones = trailing_ones r }

-- What a row says: how many codewords end; what finishes the pending one, its length and its values; the codewords inside the byte, two at most; and what
-- remains
unfoldable pub row_of_parse : Parse Bool → Row
unfolding finishing inside_numbers remains
row_of_parse p =
    record {
      count = length (codewords p);
      len = length (finishing p);
      coef0 = value0 (finishing p);
      coef1 = value1 (finishing p) + value2 (finishing p);
      coef2 = value1 (finishing p);
      second = get_or (inside_numbers p) 0 0;
      third = get_or (inside_numbers p) 1 0;
      rest = remains (rest p);
    }

-- Row i of the table: 256 for each trailing one, plus the byte
unfoldable pub row_at : ℕ → Row
unfolding parse_byte row_of_parse
row_at i = row_of_parse (parse_byte (i / 256) (i % 256))

-- ## What the functions answer and need

-- Each value of a row fits its field of the two words that hold it
pub record Small (r : Row) : Type 0 where
  pub count : r.count ≤ 3
  pub len : r.len < 16
  pub coef0 : r.coef0 < 512
  pub coef1 : r.coef1 < 256
  pub coef2 : r.coef2 < 512
  pub second : r.second < 16
  pub third : r.third < 4
  pub rest_len : r.rest.len < 16
  pub rest_value : r.rest.value < 2 ^ 18
  pub rest_ones : r.rest.ones < 4

-- A row that was looked up
abbrev pub IsRow : ℕ → Row → Type 0
IsRow i r = (r ≡ row_at i) × Small r

-- What it takes to move a row's values: a length that the position values reach to, and values as small as a row's
abbrev pub Movable : ℕ → Row → Type 0
Movable len r = (len < 38) × (r.coef0 < 512) × (r.coef1 < 512) × (r.coef2 < 512)
