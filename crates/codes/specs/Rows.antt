-- Rows of numbers, and their strings, for any code and any symbols.
use mathlib.Core.List.{List, map, flatten}
use Rattle.std.specs.Prelude.{ℕ, ◌≤◌}
use Rattle.lists.specs.Lists.{All}

-- Numbers from 1 up
abbrev pub Positive : List ℕ → Type 0
Positive row = All (λ n. 1 ≤ n) row

-- The string of a row: its codewords without a gap
abbrev pub row_string : {A : Type 0} → (ℕ → List A) → List ℕ → List A
row_string codeword row = flatten (map codeword row)
