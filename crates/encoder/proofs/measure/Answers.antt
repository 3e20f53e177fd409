use mathlib.Core.Path.{sym}
use Prim.Native.Nat.{◌+◌}
use native.Mathlib.Omega.{arith}
use Rattle.calls.specs.Limits.{max_number}
use Rattle.calls.proofs.Checks.{number_is}
use Rattle.encoder.proofs.Measuring.{Counted, counted_none, counted-more, counted-fault, counted-end}
use Rattle.encoder.proofs.measure.Goals as goal
use Rattle.encoder.proofs.measure.Goals.{After-bit_length-bits}

-- one number more
next : (c : After-bit_length-bits)
    → let l = c.loop-i in
    Counted c.args.order.m max_number c.args.row.now (l.i + 1) (l.bits + c.bit_length-bits.result) (l.total + c.from-n.result)
next c =
    let l = c.loop-i in
    counted-more c.args.order.m max_number c.args.row.now l.i l.bits l.total l.invariant c.from-n.result c.bit_length-bits.result (omega arith) c.from-n.ensures
    (sym (rw c.from.ensures at c.if-not-is_number.ensures)) (omega arith) c.bit_length-bits.ensures.0 c.bit_length-bits.ensures.1

pub loop-i-init : goal.loop-i-init
loop-i-init c = counted_none c.args.order.m max_number c.args.row.now

pub returns-then-not-is_number : goal.returns-then-not-is_number
returns-then-not-is_number c =
    let l = c.loop-i in
    counted-fault c.args.order.m max_number c.args.row.now l.i l.bits l.total l.invariant c.from-n.result (omega arith) c.from-n.ensures (sym (rw c.from.ensures at c.if-not-is_number.ensures))

pub bit_length-bits-requires : goal.bit_length-bits-requires
bit_length-bits-requires c = number_is _ _ (sym (rw c.from.ensures at c.if-not-is_number.ensures))

pub overflow_add-bits : goal.overflow_add-bits
overflow_add-bits c = record { fits = omega (arith, (next c).few) }

pub overflow_add-total : goal.overflow_add-total
overflow_add-total c = record { fits = omega (arith, (next c).small) }

pub loop-i-preserved : goal.loop-i-preserved
loop-i-preserved c = next c

pub returns : goal.returns
returns c =
    let l = c.loop-i in
    counted-end c.args.order.m max_number c.args.row.now l.i l.bits l.total l.invariant (omega arith)
