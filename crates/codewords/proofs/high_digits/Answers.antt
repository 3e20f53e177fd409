use mathlib.Core.Path.{◌≡◌}
use Prim.Native.Nat.{ℕ, ◌+◌, ◌-◌, ◌*◌, ◌%◌, ◌^◌, ◌≤◌}
use native.Mathlib.Omega.{arith}
use Rattle.fibonacci.proofs.Lookup.{codeword-short}
use Rattle.codewords.specs.Leaves.{HighDigits}
use Rattle.codewords.proofs.Codewords.{position-legal, high-start, high-more}
use Rattle.codewords.proofs.high_digits.Goals as goal
use Rattle.codewords.proofs.high_digits.Goals.{After-first_number}

-- where the digits begin
start : (c : After-first_number)
    → let a = c.args in
    let x = c.first_number.result in
    (x ≤ a.n) × HighDigits a.order.m a.n a.d a.d (a.n - x) (1 * 2 ^ c.m-m.result % 2 ^ 64 - 1)
start c =
    let o = c.args.order in
    let p = c.requires in
    rw c.m-m.ensures (high-start o.m c.args.n c.args.d o.in_use p.0 p.1 p.2 c.first_number.result c.first_number.ensures)

pub overflow_sub-above : goal.overflow_sub-above
overflow_sub-above c = (start c).0

pub loop-j-init : goal.loop-j-init
loop-j-init c =
    let o = c.args.order in
    let p = c.requires in
    let left : ℕ = c.args.n - c.first_number.result in
    let same : left + 2 ^ 32 - 2 ^ 32 ≡ left = omega arith in
    record {
      stop = omega arith;
      short = omega (arith, p.2, codeword-short o.m c.args.n o.in_use p.0 p.1);
      least = omega arith;
      most = omega arith;
      high = rw same (start (goal.at.loop-j-init c).After-first_number).1;
    }

pub position-f-requires : goal.position-f-requires
position-f-requires c =
    let o = c.args.order in
    let p = c.requires in
    position-legal o.m c.args.n c.args.d o.in_use p.0 p.1 p.2 (c.loop-j.j - 1 + 1) (omega arith)

pub digit-one-requires : goal.digit-one-requires
digit-one-requires c =
    let o = c.args.order in
    let p = c.requires in
    let legal = position-legal o.m c.args.n c.args.d o.in_use p.0 p.1 p.2 (c.loop-j.j - 1 + 1) (omega arith) in
    (omega (arith, c.position-f.ensures, legal), omega arith, omega arith)

pub loop-j-preserved : goal.loop-j-preserved
loop-j-preserved c =
    let m = c.args.order.m in
    let l = c.loop-j in
    let i = l.invariant in
    let s = high-more m c.args.n c.args.d l.j l.above l.word c.position-f.result c.digit-one.result (c.m-m.result + c.args.d - 1 - (l.j - 1))
    (omega arith) (omega arith) l.auto.j i.short (omega arith) i.least c.position-f.ensures i.high c.digit-one.ensures.0 c.digit-one.ensures.1 in
    record { stop = omega arith; short = i.short; least = s.0; most = omega (arith, i.most); high = s.1 }
