use Rattle.std.proofs.Common.{◌≡◌, ◌-◌}
use Rattle.bits.specs.Bits.{unpack}
use Rattle.calls.specs.Limits.{max_count}
use Rattle.word_decoder.specs.Leaves.{Spanned}
use Rattle.word_decoder.proofs.take_span.Given as goal

abbrev pub invariant-loop-told : goal.invariant-loop-told
invariant-loop-told l = record {
  same : l.cursor.encoding ≡ l.encoding;
  at : l.cursor.bit ≡ l.told.bits;
  spanned : Spanned l.encoding.order.m l.encoding.limit l.span.from l.span.to (unpack l.encoding.bytes.now) l.told;
}

abbrev pub decreases-loop-told : goal.decreases-loop-told
decreases-loop-told l = max_count - l.told.count
