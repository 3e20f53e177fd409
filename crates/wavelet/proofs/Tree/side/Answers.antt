use native.Mathlib.Omega.{arith}
use Rattle.wavelet.proofs.Walking.{step_fits}
use Rattle.wavelet.proofs.Tree.side.Goals as goal

pub overflow_add-depth : goal.overflow_add-depth
overflow_add-depth c = omega (arith, step_fits _ c.args.v c.args.self.order.in_use c.requires)
