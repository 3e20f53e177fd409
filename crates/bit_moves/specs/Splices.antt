-- Bits replaced by others, which may be more or fewer: the bits behind them move. For the contracts of those who move them.
use Rattle.std.specs.Prelude.{Bool, List, ◌++◌, ℕ, ◌+◌, take, drop}

-- The bits b with `new` for the `old` bits that stand at bit `at`
unfoldable pub splice : ℕ → ℕ → List Bool → List Bool → List Bool
splice at old new b = take at b ++ (new ++ drop (at + old) b)
