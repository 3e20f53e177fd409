use native.Mathlib.Omega.{arith}
use Rattle.bits.specs.Bits.{unpack}
use Rattle.word_windows.proofs.Starts.{starts_none}
use Rattle.word_decoder.proofs.Taking.{windowed_none}
use Rattle.word_decoder.proofs.Cursor.start.Goals as goal

pub invariant_of-result : goal.invariant_of-result
invariant_of-result c =
    let e = c.args.encoding in
    record {
      within = omega arith;
      windowed = windowed_none (unpack e.bytes.now) 0;
      starts_are = (starts_none e.order.m 64 (omega (arith, e.order.in_use)), omega arith);
    }
