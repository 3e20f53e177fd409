-- The bits of a word that stand before the last ones of a codeword: their value, and how far one that is looked up in the tables of byte values is right.
use Rattle.std.specs.Prelude.{◌≡◌, false, ℕ, ◌-◌, ◌≤◌, ◌<◌, take, get_or}
use Rattle.bits.specs.Bits.{word_bits}
use Rattle.fibonacci.specs.Code.{value}
use Rattle.calls.specs.Limits.{max_number}

-- The first `len` bits of the word w can be such bits: there are none, or the last is a zero
abbrev pub IsBody : ℕ → ℕ → Type 0
IsBody w len = 1 ≤ len → get_or (word_bits 64 w) (len - 1) false ≡ false

-- Their value in order m, the first being digit 1
abbrev pub body_value : ℕ → ℕ → ℕ → ℕ
body_value m w len = value m 1 (take len (word_bits 64 w))

-- r is the value v as far as that can be the value of a legal number; else it is not below the largest number
abbrev pub Saturated : ℕ → ℕ → Type 0
Saturated v r = (v ≤ max_number → r ≡ v) × (max_number < v → max_number ≤ r)
