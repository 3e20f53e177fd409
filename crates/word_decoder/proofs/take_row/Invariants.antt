use Rattle.std.proofs.Common.{◌≡◌, length, take}
use Rattle.bits.specs.Bits.{unpack}
use Rattle.word_decoder.specs.Leaves.{DecodedPrefix}
use Rattle.word_decoder.proofs.take_row.Given as goal

abbrev pub invariant-loop-count : goal.invariant-loop-count
invariant-loop-count l = record {
  same : l.cursor.encoding ≡ l.encoding;
  decoded : DecodedPrefix l.encoding.order.m l.encoding.limit (unpack l.encoding.bytes.now) l.cursor.bit l.count (take l.count l.row);
  long : length l.row ≡ length l.fn.row;
}
