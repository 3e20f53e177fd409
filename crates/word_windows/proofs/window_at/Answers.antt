use native.Mathlib.Omega.{arith}
use lib.Bits.{bit_and, and_mask}
use Rattle.bits.specs.Bits.{unpack}
use Rattle.bits.proofs.Bytes.{unpack-length}
use Rattle.word_windows.proofs.Starts.{starts_none}
use Rattle.word_windows.proofs.Loading.{window-none, window-load}
use Rattle.word_windows.proofs.window_at.Goals as goal

pub returns-then-s-q : goal.returns-then-s-q
returns-then-s-q c =
    let a = c.args in
    record {
      window = window-none (unpack a.s.now) a.bit (omega (arith, unpack-length a.s.now));
      whole = λ h. absurd (omega (arith, unpack-length a.s.now));
      starts_are = (starts_none a.order.m 64 (omega arith), omega arith);
    }

pub returns : goal.returns
returns c =
    let a = c.args in
    let (full, some) = window-load a.s.now a.bit (bit_and a.bit 7) c.word_at.result (and_mask a.bit 3) (omega arith) c.word_at.ensures in
    record {
      window = full;
      whole = λ h. some;
      starts_are = c.run_starts.ensures;
    }
