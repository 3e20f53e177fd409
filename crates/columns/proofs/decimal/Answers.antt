use Rattle.std.proofs.Common.{arith}
use Rattle.columns.proofs.Columns.{counted_more}
use Rattle.columns.proofs.decimal.Goals as goal

pub loop-b-preserved : goal.loop-b-preserved
loop-b-preserved c = let l = c.loop-b in counted_more c.args.text.now l.b-index l.n _ l.invariant (omega arith) (omega arith) (omega arith)
