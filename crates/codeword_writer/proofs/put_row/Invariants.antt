use Rattle.std.proofs.Common.{◌≡◌, length}
use Rattle.bits.specs.Bits.{unpack}
use Rattle.codeword_writer.proofs.Rows.{Put}
use Rattle.codeword_writer.proofs.put_row.Given as goal

abbrev pub invariant-loop-n : goal.invariant-loop-n
invariant-loop-n l = record {
  long : length l.out ≡ length l.initial.out;
  put : Put l.order.m l.row l.bytes l.n-index l.at (unpack l.out) (unpack l.initial.out);
}
