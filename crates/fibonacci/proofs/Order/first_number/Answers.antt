use mathlib.Core.Path.{sym, ◌∙◌}
use Prim.Native.Nat.{◌≤◌}
use native.Mathlib.Omega.{arith}
use lib.ListN.{length}
use Rattle.std.proofs.lemmas.List.{get_or_past}
use Rattle.fibonacci.specs.Leaves.{Holds}
use Rattle.fibonacci.proofs.Order.first_number.Goals as goal

pub returns-then-d-row : goal.returns-then-d-row
unfolding Holds
returns-then-d-row c = c.from.ensures ∙ c.first_row-row.ensures c.args.d

pub returns-else-d-row : goal.returns-else-d-row
unfolding Holds
returns-else-d-row c =
    let past : length c.first_row-row.result.now ≤ c.args.d = omega arith in
    sym (get_or_past _ _ 0 past) ∙ c.first_row-row.ensures c.args.d
