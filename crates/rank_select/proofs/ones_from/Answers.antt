use mathlib.Core.Bool.{true}
use native.Mathlib.Omega.{arith}
use Rattle.bits.specs.Bits.{unpack}
use Rattle.bits.proofs.Count.{count-between}
use Rattle.rank_select.proofs.ones_from.Goals as goal

pub overflow_sub-result : goal.overflow_sub-result
overflow_sub-result c =
    let a = c.args in
    omega (arith, count-between true a.from a.k (unpack a.s.now))

pub returns : goal.returns
returns c =
    let a = c.args in
    omega (arith, count-between true a.from a.k (unpack a.s.now))
