use Rattle.std.proofs.Common.{◌-◌}
use Rattle.bits.specs.Bits.{unpack}
use Rattle.calls.specs.Limits.{max_count}
use Rattle.word_decoder.specs.Leaves.{Spanned}
use Rattle.decoder.proofs.sum_span.Given as goal

abbrev pub invariant-loop-n : goal.invariant-loop-n
invariant-loop-n l = let e = l.encoding in Spanned e.order.m e.limit l.from l.to (unpack e.bytes.now) l.told

abbrev pub decreases-loop-n : goal.decreases-loop-n
decreases-loop-n l = max_count - l.told.count
