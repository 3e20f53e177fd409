-- Rows of numbers as bytes of the (s, c)-dense code, and the codewords of a string of bytes.
use Rattle.std.specs.Prelude.{true, false, List, [], ◌∷◌, map, ℕ, ◌≤◌, ltb}
use Rattle.lists.specs.Lists.{All}
use Rattle.codes.specs.Rows.{row_string}
use Rattle.codes.specs.Parse.{Parse, parsed, codewords, push, prepend}
use Rattle.codes.specs.Parse as codes
use Rattle.dense.specs.Code.{Codeword, number, codeword}

-- The bytes of a row: its codewords without a gap
unfoldable pub encoding : ℕ → ℕ → List ℕ → List ℕ
encoding s c row = row_string (codeword s c) row

-- ## The parse of a string of bytes

-- A rest: no codeword ends in it
abbrev pub Rest : ℕ → List ℕ → Type 0
Rest s r = All (λ x. s ≤ x) r

-- b is made of codewords, none or more, followed by a rest
abbrev pub IsParse : ℕ → ℕ → List ℕ → Parse ℕ → Type 0
IsParse s c b p = codes.IsParse (Codeword s c) (Rest s) b p

-- A codeword ends at each byte below s
unfoldable pub parse : ℕ → List ℕ → Parse ℕ
parse s [] = parsed [] []
parse s (a ∷ b) = elim (ltb a s) [ true ↦ prepend (a ∷ []) (parse s b) | false ↦ push a (parse s b) ]

-- The numbers of the codewords of a string of bytes
unfoldable pub numbers : ℕ → ℕ → List ℕ → List ℕ
numbers s c b = map (number s c) (codewords (parse s b))
