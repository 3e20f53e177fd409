use native.Mathlib.Omega.{arith}
use Rattle.bits.proofs.Words.{bit_masked}
use Rattle.bits.proofs.Bytes.{bit_at, bit_past}
use Rattle.bits.proofs.bit.Goals as goal

pub returns : goal.returns
returns c = grind (arith, bit_masked, bit_at c.args.s.now c.args.k, bit_past c.args.s.now c.args.k)
