use Rattle.std.proofs.Common.{arith}
use Rattle.dense_encoder.proofs.Sizes.{measured-start, measured-few, measured-more, measured-none, measured-end}
use Rattle.dense_encoder.proofs.size.Goals as goal

pub loop-low-init : goal.loop-low-init
loop-low-init c = rw (c.from-s.ensures, c.s.ensures, c.from-c.ensures, c.continuers.ensures) (measured-start _ _ c.args.stoppers.legal c.requires.1)

pub returns-then-longer-eq0 : goal.returns-then-longer-eq0
returns-then-longer-eq0 c = measured-none c.loop-low.invariant c.in-Ok.ensures.1 c.count_from-longer.ensures c.if-longer-eq0.true

pub overflow_add-bytes : goal.overflow_add-bytes
overflow_add-bytes c = omega (arith, measured-few c.loop-low.invariant c.in-Ok.ensures.1 c.count_from-longer.ensures)

pub loop-low-preserved : goal.loop-low-preserved
loop-low-preserved c = rw (c.from-c.ensures, c.continuers.ensures) (measured-more c.loop-low.invariant c.in-Ok.ensures.1 c.count_from-longer.ensures)

pub returns : goal.returns
returns c = measured-end c.loop-low.invariant (omega arith)
