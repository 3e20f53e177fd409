use mathlib.Core.Path.{ap, ◌∙◌}
use mathlib.Core.Logic.{inr}
use native.Mathlib.Omega.{arith}
use Rattle.bits.specs.Bits.{unpack, count}
use Rattle.bits.proofs.Bytes.{unpack-length}
use Rattle.bits.proofs.Select.{step-bits, step-skipped}
use Rattle.rank_select.proofs.Range.skip.Goals as goal

pub loop-at-preserved : goal.loop-at-preserved
loop-at-preserved c =
    let r = c.args.self in
    let long = unpack-length r.bytes.now in
    let same =
    step-skipped (unpack r.bytes.now) r.from r.len c.loop-at.at c.args.step (omega (arith, r.within)) (omega arith) c.args.v c.loop-at.left c.count-here.result
    c.count-here.ensures c.if-here-left.false in
    (omega arith, c.loop-at.invariant.1 ∙ same)

pub returns-then-here-left : goal.returns-then-here-left
returns-then-here-left c =
    let r = c.args.self in
    let long = unpack-length r.bytes.now in
    let e = ap (count c.args.v) (step-bits (unpack r.bytes.now) r.from r.len c.loop-at.at c.args.step (omega (arith, r.within)) (omega arith)) in
    (omega arith, c.loop-at.invariant.1, inr (omega (arith, c.count-here.ensures, e)))
