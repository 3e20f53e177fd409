use Rattle.std.proofs.Common.{◌≡◌, ◌-◌, length, take}
use Rattle.bits.specs.Bits.{unpack}
use Rattle.calls.specs.Limits.{max_count}
use Rattle.word_decoder.specs.Leaves.{DecodedPrefix}
use Rattle.decoder.proofs.store_row.Given as goal

abbrev pub invariant-loop-n : goal.invariant-loop-n
invariant-loop-n l =
    let e = l.encoding in
    record {
      decoded : DecodedPrefix e.order.m e.limit (unpack e.bytes.now) l.at.bit l.at.count (take l.at.count l.row);
      long : length l.row ≡ length l.fn.row;
    }

abbrev pub decreases-loop-n : goal.decreases-loop-n
decreases-loop-n l = max_count - l.at.count
