use mathlib.Core.Path.{◌≡◌, ap, ◌∙◌}
use mathlib.Core.List.{[]}
use Prim.Native.Nat.{◌+◌, ◌-◌}
use native.Mathlib.Omega.{arith}
use Rattle.lists.proofs.Lists.{values-at}
use Rattle.bits.specs.Bits.{bit_of, word_bits}
use Rattle.fibonacci.specs.Code.{past, F, value}
use Rattle.digit_tables.specs.Leaves.{byte_value, byte_values}
use Rattle.digit_tables.proofs.values.Goals as goal

-- (one computation over the table)
pub returns : goal.returns
unfolding byte_values byte_value value F past word_bits bit_of
returns c =
    let order_of : 2 + (c.m.result - 2) ≡ c.args.order.m = omega arith in
    values-at byte_values 2 5 (c.m.result - 2) [] (omega arith) ∙ ap byte_values order_of
