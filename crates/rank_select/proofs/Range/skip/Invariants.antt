use Prim.Native.Nat.{◌-◌, ◌≤◌}
use mathlib.Core.Path.{◌≡◌}
use Rattle.rank_select.specs.Leaves.{bits_of, target}
use Rattle.rank_select.proofs.Range.skip.Given as goal

-- the bit searched for is the same
abbrev pub invariant-loop-at : goal.invariant-loop-at
invariant-loop-at l = (l.at ≤ l.self.len) × (target l.v (bits_of l.self) l.fn.start ≡ target l.v (bits_of l.self) (record { at = l.at; left = l.left }))

abbrev pub decreases-loop-at : goal.decreases-loop-at
decreases-loop-at l = l.self.len - l.at
