-- Bits in bytes: a list of bytes as a list of bits, and back. A bit is a Bool, true for a one.
use Rattle.std.specs.Prelude.{Bool, true, false, not, ℕ, zero, suc, ◌+◌, ◌-◌, ◌*◌, ◌/◌, ◌%◌, ◌^◌, ◌<◌, eqb, length, get_or, drop}
use mathlib.Core.List.{List, [], ◌∷◌, map, flatten}

-- The elements of a list are bytes
abbrev pub Bytes : List ℕ → Type 0
Bytes s = (i : ℕ) → get_or s i 0 < 256

-- ## From bytes to bits

-- The bit of x that is worth 2 ^ k
unfoldable pub bit_of : ℕ → ℕ → Bool
bit_of x k = eqb (x / 2 ^ k % 2) 1

-- The n low bits of x, the highest first
unfoldable pub word_bits : ℕ → ℕ → List Bool
word_bits zero x = []
word_bits (suc n) x = bit_of x n ∷ word_bits n x

-- The bits of a list of bytes, from the top of each byte
unfoldable pub unpack : List ℕ → List Bool
unpack bytes = flatten (map (word_bits 8) bytes)

-- ## From bits to bytes

-- A one counts 1, a zero nothing
abbrev pub bit_value : Bool → ℕ
bit_value false = 0
bit_value true = 1

-- The number of n bits, the first worth 2 ^ (n - 1); bits that are missing are zeros
unfoldable pub word_of : ℕ → List Bool → ℕ
word_of zero b = 0
word_of (suc n) [] = 0
word_of (suc n) (a ∷ b) = bit_value a * 2 ^ n + word_of n b

-- The first c bytes of a list of bits, the first bit of each worth 128
unfoldable pub bytes_of : ℕ → List Bool → List ℕ
bytes_of zero b = []
bytes_of (suc c) b = word_of 8 b ∷ bytes_of c (drop 8 b)

-- How many bytes hold n bits
abbrev pub byte_count : ℕ → ℕ
byte_count n = (n + 7) / 8

-- The bytes that hold a list of bits, the last one filled up with zeros
unfoldable pub pack : List Bool → List ℕ
pack b = bytes_of (byte_count (length b)) b

-- How many zeros fill the last byte (paper 01: the fill)
unfoldable pub padding : ℕ → ℕ
padding n = 8 * byte_count n - n

-- ## Counting

-- Whether a bit is the first one given
abbrev pub same_bit : Bool → Bool → Bool
same_bit true a = a
same_bit false a = not a

-- How often the bit v stands in a list of bits
unfoldable pub count : Bool → List Bool → ℕ
count v [] = 0
count v (a ∷ b) = bit_value (same_bit v a) + count v b

-- The place of the bit v that has j others of its kind before it; where there is none, how many bits there are
unfoldable pub select_bit : Bool → ℕ → List Bool → ℕ
select_bit v j [] = 0
select_bit v zero (a ∷ b) = elim (same_bit v a) [ true ↦ 0 | false ↦ suc (select_bit v zero b) ]
select_bit v (suc j) (a ∷ b) = suc (elim (same_bit v a) [ true ↦ select_bit v j b | false ↦ select_bit v (suc j) b ])
