-- Paper 01, "Knots to check by pencil": P1 to P11 as one table, each line beside what the definitions give.
use Rattle.std.specs.Prelude.{◌≡◌, Bool, true, false, ℕ, ◌-◌, length, get_or, take, replicate, Ok}
use mathlib.Core.List.{List, [], ◌∷◌, ◌++◌, map, flatten}
use Rattle.lists.specs.Lists.{values_from}
use Rattle.bits.specs.Bits.{bit_value}
use Rattle.fibonacci.specs.Code.{value, first, number, codeword}
use Rattle.calls.specs.Calls.{Outcome, answer_number, answer_place, answer_results, and_then}
use Rattle.headers.specs.declared.Header.{Header}
use Rattle.reading.specs.Reading.{read, read_into}
use Rattle.totals.specs.Totals.{total}
use Rattle.encoder.specs.Writing.{write, write_into}
use Rattle.wavelet.specs.Nodes.{tree, nodes}
use Rattle.wavelet.specs.Bitmaps.{bitmap, bitmaps}
use Rattle.wavelet.specs.Questions.{build, build_into, extract, rank, select}

-- What is asked: a call, with the room of its output last where it has one, or what the code itself gives
pub data Example : Type 0 where
  Codeword : (m n : ℕ) → Example
  Number : (m : ℕ) (w : List Bool) → Example
  Write : (m : ℕ) (row : List ℕ) (room : ℕ) → Example
  Read : (m : ℕ) (s : List ℕ) (room : ℕ) → Example
  Total : (m : ℕ) (s : List ℕ) (a b : ℕ) → Example
  Bitmaps : (m N : ℕ) (row : List ℕ) → Example
  Bitmap : (m N : ℕ) (row : List ℕ) (k : ℕ) → Example
  Build : (m N : ℕ) (row : List ℕ) (room : ℕ) → Example
  Extract : (m N k : ℕ) (s : List ℕ) (i : ℕ) → Example
  Rank : (m N k : ℕ) (s : List ℕ) (n i : ℕ) → Example
  Select : (m N k : ℕ) (s : List ℕ) (n j : ℕ) → Example

-- An answer: its number and place, its results in a list, none after a refusal, and the output afterwards, where zeros stood before
abbrev pub Answer : Type 0
Answer = ℕ × ℕ × List ℕ × List ℕ

abbrev pub answers : Outcome (List ℕ) → List ℕ → Answer
answers o output = (answer_number o, answer_place o, answer_results [] o, output)

abbrev pub one : Outcome ℕ → Outcome (List ℕ)
one o = and_then o (λ x. Ok (x ∷ []))

abbrev pub two : Outcome (ℕ × ℕ) → Outcome (List ℕ)
two o = and_then o (λ x. Ok (x.0 ∷ x.1 ∷ []))

-- Of bytes and a header these are the bytes, the bits, the count and the total
abbrev pub four : Outcome (ℕ × Header) → Outcome (List ℕ)
four o = and_then o (λ x. Ok (x.0 ∷ x.1.bits ∷ x.1.count ∷ x.1.total ∷ []))

-- What the definitions give. Of a codeword these are its bits; of the number of a codeword the first number, the relative number and their sum; of bitmaps the
-- joined ones, or that of node k in their order
unfoldable pub answer : Example → Answer
answer (Codeword m n) = answers (Ok (map bit_value (codeword m n))) []
answer (Number m w) = answers (Ok (first m (length w - m) ∷ value m 1 (take (length w - m) w) ∷ number m w ∷ [])) []
answer (Write m row room) = answers (four (write m row room)) (write_into m row (replicate room 0))
answer (Read m s room) = answers (one (read m s room)) (read_into m s (replicate room 0))
answer (Total m s a b) = answers (one (total m s a b)) []
answer (Bitmaps m N row) = answers (Ok (map bit_value (bitmaps m N row))) []
answer (Bitmap m N row k) = answers (Ok (map bit_value (bitmap m row (get_or (nodes (tree m N)) k [])))) []
answer (Build m N row room) = answers (one (build m N row room)) (build_into m N row (replicate room 0))
answer (Extract m N k s i) = answers (two (extract m N k s i)) []
answer (Rank m N k s n i) = answers (two (rank m N k s n i)) []
answer (Select m N k s n j) = answers (two (select m N k s n j)) []

-- A line of the table: an example, and what the paper prints of its answer; no line has a place
pub record Line : Type 0 where
  pub example : Example
  pub number : ℕ
  pub results : List ℕ
  pub output : List ℕ

abbrev pub line : Example → ℕ → List ℕ → List ℕ → Line
line e n r o = record { example = e; number = n; results = r; output = o }

-- The row of P2
abbrev pub row : List ℕ
row = 3 ∷ 1 ∷ 4 ∷ 2 ∷ 1 ∷ []

-- The codeword of P3, 0110110110111
abbrev pub six_hundred : List Bool
six_hundred = false ∷ true ∷ true ∷ false ∷ true ∷ true ∷ false ∷ true ∷ true ∷ false ∷ true ∷ true ∷ true ∷ []

abbrev pub pencil : List Line
pencil =
    -- P1 order 2, empty row: no bytes, total 0
    line (Write 2 [] 0) 0 (0 ∷ 0 ∷ 0 ∷ 0 ∷ []) [] ∷
    line (Total 2 [] 0 0) 0 (0 ∷ []) [] ∷
    -- P2 order 2, row 3, 1, 4, 2, 1: bytes 3E DE, 15 bits
    line (Write 2 row 2) 0 (2 ∷ 15 ∷ 5 ∷ 11 ∷ []) (0x3e ∷ 0xde ∷ []) ∷
    -- P3 order 3, row 600: 0110110110111, bytes 6D B8 (relative 273, first number 327)
    line (Codeword 3 600) 0 (map bit_value six_hundred) [] ∷
    line (Number 3 six_hundred) 0 (327 ∷ 273 ∷ 600 ∷ []) [] ∷
    line (Write 3 (600 ∷ []) 2) 0 (2 ∷ 13 ∷ 1 ∷ 600 ∷ []) (0x6d ∷ 0xb8 ∷ []) ∷
    -- P4 order 3, row 1: byte E0
    line (Write 3 (1 ∷ []) 1) 0 (1 ∷ 3 ∷ 1 ∷ 1 ∷ []) (0xe0 ∷ []) ∷
    -- P5 order 6, row 2: byte 7E
    line (Write 6 (2 ∷ []) 1) 0 (1 ∷ 7 ∷ 1 ∷ 2 ∷ []) (0x7e ∷ []) ∷
    -- P6 order 2, byte FF: row 1, 1, 1, 1
    line (Read 2 (0xff ∷ []) 4) 0 (4 ∷ []) (1 ∷ 1 ∷ 1 ∷ 1 ∷ []) ∷
    -- P7 order 2, byte 00: refusal 6
    line (Read 2 (0x00 ∷ []) 1) 6 [] (0 ∷ []) ∷
    -- P8 order 2, byte E0: refusal 6 (a one remains)
    line (Read 2 (0xe0 ∷ []) 1) 6 [] (0 ∷ []) ∷
    -- P9 the row of P2, order 2, top 4: stream 01101 01 101, bytes 6B 40
    line (Bitmaps 2 4 row) 0 (0 ∷ 1 ∷ 1 ∷ 0 ∷ 1 ∷ 0 ∷ 1 ∷ 1 ∷ 0 ∷ 1 ∷ []) [] ∷
    line (Bitmap 2 4 row 0) 0 (0 ∷ 1 ∷ 1 ∷ 0 ∷ 1 ∷ []) [] ∷
    line (Bitmap 2 4 row 1) 0 (0 ∷ 1 ∷ []) [] ∷
    line (Bitmap 2 4 row 2) 0 (1 ∷ 0 ∷ 1 ∷ []) [] ∷
    line (Build 2 4 row 2) 0 (10 ∷ []) (0x6b ∷ 0x40 ∷ []) ∷
    -- P10 on P9: extract 2 gives 4 in 2 looks; rank of 1 in the first 3 gives 1; select of 1, j = 2, gives 4; j = 3 gives 12
    line (Extract 2 4 5 (0x6b ∷ 0x40 ∷ []) 2) 0 (4 ∷ 2 ∷ []) [] ∷
    line (Rank 2 4 5 (0x6b ∷ 0x40 ∷ []) 1 3) 0 (1 ∷ 2 ∷ []) [] ∷
    line (Select 2 4 5 (0x6b ∷ 0x40 ∷ []) 1 2) 0 (4 ∷ 2 ∷ []) [] ∷
    line (Select 2 4 5 (0x6b ∷ 0x40 ∷ []) 1 3) 12 [] [] ∷ []

-- P11 top 1, row 1, 1: no index bytes, extract 1 gives 1 in 0 looks. It names no order, so it stands in the table once for each
abbrev pub each_order : ℕ → List Line
each_order m =
    line (Build m 1 (1 ∷ 1 ∷ []) 0) 0 (0 ∷ []) [] ∷
    line (Extract m 1 2 [] 1) 0 (1 ∷ 0 ∷ []) [] ∷ []

-- What the orders 2 to 6 give
abbrev pub orders : {A : Type 0} → (ℕ → A) → List A
orders f = values_from f 2 5

unfoldable pub table : List Line
unfolding flatten
table = pencil ++ flatten (orders each_order)

-- Every line holds
abbrev pub Pencil : Type 0
Pencil = map (λ l. answer l.example) table ≡ map (λ l. (l.number, 0, l.results, l.output)) table
