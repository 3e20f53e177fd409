-- The limits that calls on dense codes check (paper 02, R-2).
use Rattle.std.specs.Prelude.{Bool, ℕ, ◌-◌, ◌≤◌}
use Rattle.calls.specs.Limits.{within}

-- How many byte values are stoppers: s is 1 to 254
unfoldable pub is_stoppers : ℕ → Bool
is_stoppers s = within 1 254 s

-- .. the same as a proposition
abbrev pub Stoppers : ℕ → Type 0
Stoppers s = (1 ≤ s) × (s ≤ 254)

-- How many are continuers: c
abbrev pub continuers : ℕ → ℕ
continuers s = 256 - s

-- How many bytes a dense encoding has at most: 25 for each of 4,096 numbers
abbrev pub max_dense_bytes : ℕ
max_dense_bytes = 102400
