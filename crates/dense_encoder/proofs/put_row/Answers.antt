use Rattle.std.proofs.Common.{arith}
use Rattle.dense_encoder.proofs.Putting.{behind-start, behind-number, behind-room, behind-more, behind-end}
use Rattle.dense_encoder.proofs.put_row.Goals as goal

pub loop-n-init : goal.loop-n-init
loop-n-init c = behind-start _ _ _ _ _ c.requires.1 (cc)

pub put_codeword-at-requires : goal.put_codeword-at-requires
put_codeword-at-requires c = (behind-number c.loop-n.invariant _ _ c.in-Some.ensures.steps c.requires.0.1, behind-room c.loop-n.invariant _ _ c.in-Some.ensures.steps)

pub loop-n-preserved : goal.loop-n-preserved
loop-n-preserved c = behind-more c.loop-n.invariant _ _ c.in-Some.ensures.steps _ _ c.put_codeword-at.ensures

pub returns : goal.returns
returns c = behind-end c.loop-n.invariant (omega (arith, c.in-None.ensures.steps))
