use Rattle.columns.proofs.Columns.{Counted}
use Rattle.columns.proofs.decimal.Given as goal

abbrev pub invariant-loop-b : goal.invariant-loop-b
invariant-loop-b l = Counted l.text l.b-index l.n
