-- What the definitions compute, beside what 001 and paper 01 print.
use mathlib.Core.Path.{◌≡◌, refl}
use mathlib.Core.Bool.{Bool, true, false}
use mathlib.Core.List.{List, [], ◌∷◌}
use Prim.Native.Nat.{ℕ}
use lib.ListN.{length}
use Rattle.lists.specs.Lists.{values_from}
use Rattle.bits.specs.Bits.{bit_of, word_bits}
use Rattle.codes.specs.Parse.{parsed}
use Rattle.fibonacci.specs.Code.{past, F, first, digits, size, codeword}
use Rattle.fibonacci.specs.Encoding.{parse, parse_after}
use Rattle.calls.specs.Limits.{max_number}

-- Bits as a binary numeral with a one put before them, so that zeros at the start count: 0b1_011 is 011
word : ℕ → List Bool
word x = after_mark (word_bits 16 x)
  where
    after_mark : List Bool → List Bool
    after_mark [] = []
    after_mark (false ∷ b) = after_mark b
    after_mark (true ∷ b) = b

-- 001, table 1: F(1) to F(13) of the orders 2 to 6
table-1 : values_from (λ m. values_from (F m) 1 13) 2 5 ≡
    (1 ∷ 2 ∷ 3 ∷ 5 ∷ 8 ∷ 13 ∷ 21 ∷ 34 ∷ 55 ∷ 89 ∷ 144 ∷ 233 ∷ 377 ∷ []) ∷
    (1 ∷ 2 ∷ 4 ∷ 7 ∷ 13 ∷ 24 ∷ 44 ∷ 81 ∷ 149 ∷ 274 ∷ 504 ∷ 927 ∷ 1705 ∷ []) ∷
    (1 ∷ 2 ∷ 4 ∷ 8 ∷ 15 ∷ 29 ∷ 56 ∷ 108 ∷ 208 ∷ 401 ∷ 773 ∷ 1490 ∷ 2872 ∷ []) ∷
    (1 ∷ 2 ∷ 4 ∷ 8 ∷ 16 ∷ 31 ∷ 61 ∷ 120 ∷ 236 ∷ 464 ∷ 912 ∷ 1793 ∷ 3525 ∷ []) ∷
    (1 ∷ 2 ∷ 4 ∷ 8 ∷ 16 ∷ 32 ∷ 63 ∷ 125 ∷ 248 ∷ 492 ∷ 976 ∷ 1936 ∷ 3840 ∷ []) ∷ []
unfolding F past
table-1 = refl

-- 001, table 2: the codewords of 1 to 35 of the orders 2, 3 and 4
line : ℕ → ℕ → ℕ → List (List Bool)
line a b c = word a ∷ word b ∷ word c ∷ []

table-2 : values_from (λ n. codeword 2 n ∷ codeword 3 n ∷ codeword 4 n ∷ []) 1 35 ≡
    line 0b1_11 0b1_111 0b1_1111 ∷
    line 0b1_011 0b1_0111 0b1_01111 ∷
    line 0b1_0011 0b1_00111 0b1_001111 ∷
    line 0b1_1011 0b1_10111 0b1_101111 ∷
    line 0b1_00011 0b1_000111 0b1_0001111 ∷
    line 0b1_10011 0b1_100111 0b1_1001111 ∷
    line 0b1_01011 0b1_010111 0b1_0101111 ∷
    line 0b1_000011 0b1_110111 0b1_1101111 ∷
    line 0b1_100011 0b1_0000111 0b1_00001111 ∷
    line 0b1_010011 0b1_1000111 0b1_10001111 ∷
    line 0b1_001011 0b1_0100111 0b1_01001111 ∷
    line 0b1_101011 0b1_1100111 0b1_11001111 ∷
    line 0b1_0000011 0b1_0010111 0b1_00101111 ∷
    line 0b1_1000011 0b1_1010111 0b1_10101111 ∷
    line 0b1_0100011 0b1_0110111 0b1_01101111 ∷
    line 0b1_0010011 0b1_00000111 0b1_11101111 ∷
    line 0b1_1010011 0b1_10000111 0b1_000001111 ∷
    line 0b1_0001011 0b1_01000111 0b1_100001111 ∷
    line 0b1_1001011 0b1_11000111 0b1_010001111 ∷
    line 0b1_0101011 0b1_00100111 0b1_110001111 ∷
    line 0b1_00000011 0b1_10100111 0b1_001001111 ∷
    line 0b1_10000011 0b1_01100111 0b1_101001111 ∷
    line 0b1_01000011 0b1_00010111 0b1_011001111 ∷
    line 0b1_00100011 0b1_10010111 0b1_111001111 ∷
    line 0b1_10100011 0b1_01010111 0b1_000101111 ∷
    line 0b1_00010011 0b1_11010111 0b1_100101111 ∷
    line 0b1_10010011 0b1_00110111 0b1_010101111 ∷
    line 0b1_01010011 0b1_10110111 0b1_110101111 ∷
    line 0b1_00001011 0b1_000000111 0b1_001101111 ∷
    line 0b1_10001011 0b1_100000111 0b1_101101111 ∷
    line 0b1_01001011 0b1_010000111 0b1_011101111 ∷
    line 0b1_00101011 0b1_110000111 0b1_0000001111 ∷
    line 0b1_10101011 0b1_001000111 0b1_1000001111 ∷
    line 0b1_000000011 0b1_101000111 0b1_0100001111 ∷
    line 0b1_100000011 0b1_011000111 0b1_1100001111 ∷ []
unfolding line word word_bits bit_of codeword size digits first F past
table-2 = refl

-- Paper 01: the longest codeword of a legal number has 47 bits
max_count : values_from (λ m. length (codeword m max_number)) 2 5 ≡ 47 ∷ 39 ∷ 38 ∷ 38 ∷ 39 ∷ []
unfolding codeword size digits first F past
max_count = refl

-- Paper 01, "Ways a strip has been misread": 111 in order 2 is number 1 and a remaining 1
three-ones : parse 2 (word 0b1_111) ≡ parsed (word 0b1_11 ∷ []) (word 0b1_1)
unfolding word word_bits bit_of parse parse_after
three-ones = refl

-- Paper 01: the sum decides over 001's 19,511 as the largest value of sixteen digits of order 3
sixteen-digits : F 3 17 ≡ 19513
unfolding F past
sixteen-digits = refl
