use Rattle.std.proofs.Common.{◌<◌}
use Rattle.bits.specs.Bits.{unpack}
use Rattle.bit_decoder.proofs.Seeking.{Seeking}
use Rattle.bit_decoder.proofs.seek.Given as goal

abbrev pub invariant-loop-k : goal.invariant-loop-k
invariant-loop-k l = record {
  few : l.run < l.order.m;
  seeking : Seeking l.order.m (unpack l.s) l.from l.k l.len l.val l.run;
}
