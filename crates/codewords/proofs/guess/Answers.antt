use mathlib.Core.Path.{◌≡◌}
use Prim.Native.Nat.{◌*◌, ◌/◌}
use native.Mathlib.Omega.{arith}
use Rattle.codewords.proofs.Codewords.{guess-near}
use Rattle.codewords.proofs.guess.Goals as goal

pub returns : goal.returns
returns c =
    let o = c.args.order in
    let e = c.ilog2.ensures in
    let near = rw (← c.rate.ensures.0) at (guess-near o.m c.args.n c.ilog2.result o.in_use c.requires.1 e.power_le e.next_power_gt) in
    let few : c.min.result ≡ c.ilog2.result * c.rate.result / 8 = omega (arith, near, c.min.ensures) in
    rw few near
