-- Strings of continuers as numbers: what a reader knows between two bytes of a codeword.
use Rattle.std.specs.Prelude.{List, [], ◌∷◌, ℕ, suc, ◌+◌, ◌-◌, ◌*◌}

-- Which string of continuers it is, counted from 0, the shorter first and then by their digits, after bytes that are string y
unfoldable pub index : ℕ → ℕ → ℕ → List ℕ → ℕ
index s c y [] = y
index s c y (b ∷ u) = index s c (suc (y * c + (b - s))) u
