use native.Mathlib.Omega.{arith}
use Rattle.bit_decoder.proofs.Ones.{ones_between}
use Rattle.bit_decoder.proofs.ones_value.Goals as goal

pub overflow_sub-result : goal.overflow_sub-result
overflow_sub-result c = omega (arith, ones_between _ _ _ _ _ c.first_number.ensures c.first_number-after.ensures (omega arith))
