-- Rows of numbers as bits and bytes, and the codewords of a string of bits (paper 01, "The strip"; demand 3), for any order m.
use Rattle.std.specs.Prelude.{◌≡◌, Bool, true, false, List, [], ◌∷◌, map, ℕ, suc, eqb}
use Rattle.bits.specs.Bits.{pack}
use Rattle.codes.specs.Rows.{row_string}
use Rattle.codes.specs.Parse as codes
use Rattle.codes.specs.Parse.{Parse, parsed, codewords, push, prepend}
use Rattle.fibonacci.specs.Code.{runs, Codeword, number, codeword}

-- ## Rows

-- The bits of a row: its codewords without a gap
unfoldable pub row_bits : ℕ → List ℕ → List Bool
row_bits m row = row_string (codeword m) row

-- The bytes of a row (paper 01: its strip): the bits packed from the top of each byte, the last byte filled up with zeros
unfoldable pub encoding : ℕ → List ℕ → List ℕ
encoding m row = pack (row_bits m row)

-- ## The parse of a string of bits (demand 3: its split)

-- A rest: m ones never come in a row
abbrev pub Rest : ℕ → List Bool → Type 0
Rest m r = runs m r ≡ 0

-- b is made of codewords of order m, none or more, followed by a rest
abbrev pub IsParse : ℕ → List Bool → Parse Bool → Type 0
IsParse m b p = codes.IsParse (Codeword m) (Rest m) b p

-- The parse of b after k ones of its first codeword: a codeword ends wherever m ones are complete
unfoldable pub parse_after : ℕ → ℕ → List Bool → Parse Bool
parse_after m k [] = parsed [] []
parse_after m k (false ∷ b) = push false (parse_after m 0 b)
parse_after m k (true ∷ b) =
    elim (eqb (suc k) m) [ true ↦ prepend (true ∷ []) (parse_after m 0 b) | false ↦ push true (parse_after m (suc k) b) ]

unfoldable pub parse : ℕ → List Bool → Parse Bool
parse m b = parse_after m 0 b

-- The numbers of the codewords of a string of bits
unfoldable pub numbers : ℕ → List Bool → List ℕ
numbers m b = map (number m) (codewords (parse m b))
