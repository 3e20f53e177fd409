use Rattle.std.proofs.Common.{◌∙◌}
use Rattle.columns.proofs.Columns.{leading_less}
use Rattle.columns.proofs.put.Goals as goal

pub loop-i-preserved : goal.loop-i-preserved
loop-i-preserved c = rw c.leader.ensures (leading_less c.loop-i.out c.args.at c.loop-i.i c.loop-i.left c.loop-i-test.true ∙ c.loop-i.invariant)
