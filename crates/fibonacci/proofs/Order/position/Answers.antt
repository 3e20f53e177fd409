use mathlib.Core.Path.{◌∙◌}
use native.Mathlib.Omega.{arith}
use Rattle.fibonacci.proofs.Lookup.{position-within, position_at}
use Rattle.fibonacci.proofs.Order.position.Goals as goal

pub bounds-row-j : goal.bounds-row-j
bounds-row-j c = position-within c.args.self.m c.args.self.in_use c.args.j c.requires

pub offset_bounds-row-j : goal.offset_bounds-row-j
offset_bounds-row-j c = omega (arith, position-within c.args.self.m c.args.self.in_use c.args.j c.requires)

pub returns : goal.returns
returns c =
    let o = c.args.self in
    c.from.ensures ∙ position_at o.m o.in_use _ c.position_row-row.ensures.0.1 c.args.j c.requires
