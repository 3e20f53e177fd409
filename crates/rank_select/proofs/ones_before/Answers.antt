use Prim.Native.Nat.{ℕ, ◌-◌, ◌/◌, ◌%◌, ◌^◌, ◌≤◌, ◌<◌}
use native.Mathlib.Omega.{arith}
use lib.Count.{ones, ones-le}
use lib.ListN.{get_or}
use Rattle.std.proofs.Math.Facts.{Fits-lt-pow}
use Rattle.bits.proofs.Bytes.{high-below}
use Rattle.bits.proofs.Count.{count-few, count-whole, count-part}
use Rattle.rank_select.proofs.ones_before.Goals as goal

-- the first bits of a byte have no more ones than they are
few : (x e : ℕ) → x < 256 → ones (x / 2 ^ (8 - e % 8)) ≤ e % 8
few x e b = ones-le (e % 8) (x / 2 ^ (8 - e % 8)) (high-below x (e % 8) (omega arith) b)

pub returns-then-j-eq0 : goal.returns-then-j-eq0
returns-then-j-eq0 c = omega (arith, c.ones-whole.ensures, count-whole c.args.s.now c.args.e c.if-j-eq0.true)

pub overflow_add-result : goal.overflow_add-result
overflow_add-result c =
    let a = c.args in
    omega (arith, few (get_or a.s.now (a.e / 8) 0) a.e (Fits-lt-pow (c.type_inv.s (a.e / 8))), c.ones-whole.ensures, count-few a.s.now (a.e / 8), c.if-j-eq0.false)

pub returns : goal.returns
returns c =
    let a = c.args in
    omega (arith, c.ones-whole.ensures, count-part a.s.now a.e (omega arith) (Fits-lt-pow (c.type_inv.s (a.e / 8))))
