use mathlib.Core.Path.{◌≡◌, refl}
use mathlib.Core.Bool.{true}
use mathlib.Core.List.{[]}
use Prim.Native.Nat.{◌-◌}
use lib.ListN.{get_or}
use Rattle.fibonacci.specs.Leaves.{recurs_after, recurs}
use Rattle.fibonacci.specs.declared.tables.TheConstants.{POSITIONS}
use Rattle.fibonacci.proofs.Lookup.{rows-recur, recurs-holds}
use Rattle.fibonacci.proofs.Order.position_row.Goals as goal

-- (one computation over the table's own entries)
pub returns : goal.returns
returns c =
    let o = c.args.self in
    let r : recurs o.m (get_or POSITIONS (o.m - 2) []) ≡ true = rows-recur POSITIONS [] o.m o.in_use (unfold recurs recurs_after in refl) in
    ((o.in_use, r), recurs-holds o.m o.in_use _ r)
