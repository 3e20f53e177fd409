use native.Mathlib.Omega.{arith}
use Rattle.bits.proofs.Put.{joined_bits}
use Rattle.bit_writer.proofs.joined.Goals as goal

pub returns : goal.returns
returns c = let a = c.args in rw c.from.ensures (joined_bits a.first a.o a.word.bits a.word.len a.width c.requires a.word.fits.2 (omega arith))
