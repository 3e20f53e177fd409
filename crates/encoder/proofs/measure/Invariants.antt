use Rattle.calls.specs.Limits.{max_number}
use Rattle.encoder.proofs.Measuring.{Counted}
use Rattle.encoder.proofs.measure.Given as goal

abbrev pub invariant-loop-i : goal.invariant-loop-i
invariant-loop-i l = Counted l.order.m max_number l.row l.i l.bits l.total
