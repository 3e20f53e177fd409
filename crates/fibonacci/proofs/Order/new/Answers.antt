use mathlib.Core.Path.{sym, ◌∙◌}
use native.Mathlib.Omega.{arith}
use Rattle.calls.specs.Limits.{Order}
use Rattle.calls.proofs.Checks.{order_is}
use Rattle.fibonacci.proofs.Order.new.Goals as goal

pub invariant_of-result : goal.invariant_of-result
invariant_of-result c =
    let checked : Order c.args.m = order_is _ (sym c.is_order.ensures ∙ c.if-not-is_order.false) in
    record { in_use = (omega arith, omega arith) }
