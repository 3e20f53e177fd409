-- Ranges of the bits of bytes, and what the search for a bit promises.
use Rattle.std.specs.Prelude.{◌≡◌, Bool, List, ◌⊎◌, ℕ, ◌+◌, ◌≤◌, ◌<◌, take, drop}
use Rattle.bits.specs.Bits.{unpack, count, select_bit}
use Rattle.rank_select.specs.declared.Range.{Range}
use Rattle.rank_select.specs.declared.Skipped.{Skipped}

-- The k bits from bit `from` on
abbrev pub range : ℕ → ℕ → List ℕ → List Bool
range from k s = take k (drop from (unpack s))

-- The bits of a range
abbrev pub bits_of : Range → List Bool
bits_of r = range r.from r.len r.bytes.now

-- Where the bit v is in the bits b that has `left` others of its kind before it from bit `at` on
abbrev pub target : Bool → List Bool → Skipped → ℕ
target v b x = x.at + select_bit v x.left (drop x.at b)

-- From x to y in the k bits b: the bit searched for is the same, and no whole step is left, or the next one holds it
abbrev pub Skips : Bool → ℕ → ℕ → List Bool → Skipped → Skipped → Type 0
Skips v step k b x y = (y.at ≤ k) × (target v b x ≡ target v b y) × ((k < y.at + step) ⊎ (y.left < count v (take step (drop y.at b))))
