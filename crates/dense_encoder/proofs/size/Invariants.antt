use Prim.Native.Nat.{suc, ◌-◌}
use Rattle.calls.specs.Limits.{max_number}
use Rattle.dense_encoder.proofs.Sizes.{Measured}
use Rattle.dense_encoder.proofs.size.Given as goal

abbrev pub invariant-loop-low : goal.invariant-loop-low
invariant-loop-low l = Measured l.fn.stoppers.s l.row l.bytes l.next l.more

abbrev pub decreases-loop-low : goal.decreases-loop-low
decreases-loop-low l = suc max_number - l.next
