-- A word that has the next bits of a string of bits, and its first codeword.
use Rattle.std.specs.Prelude.{◌≡◌, Bool, false, List, [], ◌∷◌, ◌++◌, ℕ, ◌+◌, ◌-◌, ◌*◌, ◌/◌, ◌%◌, ◌^◌, ◌≤◌, ◌<◌, leb, length, take, drop, replicate}
use Rattle.bits.specs.Bits.{word_bits}
use Rattle.fibonacci.specs.Code.{leading_ones, first}
use Rattle.calls.specs.Limits.{is_number, max_number}
use Rattle.digit_values.specs.Leaves.{body_value}
use Rattle.word_windows.specs.declared.Window.{Window}

-- The number of the codeword of order m that has the first `len` bits of the word w before its last ones
abbrev pub body_number : ℕ → ℕ → ℕ → ℕ
body_number m w len = first m len + body_value m w len

-- n is x where x is at most the largest number; else it is no number of a row
abbrev pub ExactIfLegal : ℕ → ℕ → Type 0
ExactIfLegal x n = (x ≤ max_number → n ≡ x) × (max_number < x → is_number max_number n ≡ false)

-- Where m ones in a row begin: a one at each such place of the bits
unfoldable pub run_starts : ℕ → List Bool → List Bool
run_starts m [] = []
run_starts m (a ∷ b) = leb m (leading_ones (a ∷ b)) ∷ run_starts m b

-- The word r has a one at each place of the word w where m ones in a row begin
abbrev pub RunStarts : ℕ → ℕ → ℕ → Type 0
RunStarts m w r = (word_bits 64 r ≡ run_starts m (word_bits 64 w)) × (r < 2 ^ 64)

-- The word w has the bits of b from bit k on, some of them, and then zeros
pub record WindowAt (b : List Bool) (k w : ℕ) : Type 0 where
  pub some : ℕ
  pub others : ℕ
  pub all : some + others ≡ 64
  pub within : k + some ≤ length b
  pub bits : word_bits 64 w ≡ take some (drop k b) ++ replicate others false

-- The window from bit k on: where eight bytes are left from the byte of that bit on, all their bits from bit k on; and where m ones in a row begin in it
pub record LoadedWindow (m : ℕ) (b : List Bool) (k : ℕ) (r : Window) : Type 0 where
  pub window : WindowAt b k r.left
  pub whole : 8 * (k / 8) + 64 ≤ length b → window.some ≡ 64 - k % 8
  pub starts_are : RunStarts m r.left r.starts
