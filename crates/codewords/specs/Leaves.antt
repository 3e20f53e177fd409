-- How a codeword is made: a first guess at its length, the greedy digits one by one from the highest down, and the lowest ones at once by a table.
use Rattle.std.specs.Prelude.{◌≡◌, true, false, List, [], ℕ, suc, ◌+◌, ◌-◌, ◌^◌, ◌≤◌, ◌<◌, eqb, length}
use Rattle.lists.specs.Lists.{values_from}
use Rattle.bits.specs.Bits.{word_bits, word_of}
use Rattle.fibonacci.specs.Code.{F, digits, codeword}
use Rattle.bits.specs.declared.Word.{Word}

-- ## The guess

-- How many digits eight bits of a number make in order m, at least
unfoldable pub rate : ℕ → ℕ
rate m = elim (eqb m 2) [ true ↦ 11 | false ↦ elim (eqb m 3) [ true ↦ 9 | false ↦ 8 ] ]

-- ## The low digits

-- How many digits are looked up at once: so many as numbers below 64 are enough for
unfoldable pub low_count : ℕ → ℕ
low_count m = elim (eqb m 2) [ true ↦ 8 | false ↦ 6 ]

-- The digits of x at the positions 1, 2, .. , t as a word, position t at its bottom
unfoldable pub low_word : ℕ → ℕ → ℕ → ℕ
low_word m t x = word_of t (digits m t x [])

-- The row of the table for order m: the low digits of 0, 1, .. , 63
unfoldable pub low_digits : ℕ → List ℕ
unfolding low_word low_count
low_digits m = values_from (λ x. low_word m (low_count m) x) 0 64

-- ## The digits above them

-- Down to position j: the digits from there on of the value that is left, before the word so far, make the codeword of n, which has d bits before its last
-- ones
abbrev pub HighDigits : ℕ → ℕ → ℕ → ℕ → ℕ → ℕ → Type 0
HighDigits m n d j left w =
    (digits m j left (word_bits (m + (d - j)) w) ≡ codeword m n) × (w < 2 ^ (m + (d - j))) × (left < F m (suc j))

-- ## The word

-- A word is the codeword of n
abbrev pub Codes : ℕ → ℕ → Word → Type 0
Codes m n w = (word_bits w.len w.bits ≡ codeword m n) × (w.len ≡ length (codeword m n)) × (w.len ≤ 47)
