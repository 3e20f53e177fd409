use native.Mathlib.Omega.{arith}
use Rattle.byte_table.proofs.Moving.{times-is}
use Rattle.byte_table.proofs.times.Goals as goal

pub overflow_mul-result : goal.overflow_mul-result
overflow_mul-result c = record { fits = omega (arith, (times-is c.args.n c.args.v c.requires.0 c.requires.1).1) }

pub returns : goal.returns
returns c = times-is c.args.n c.args.v c.requires.0 c.requires.1
