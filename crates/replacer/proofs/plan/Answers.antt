use mathlib.Core.Path.{sym}
use native.Mathlib.Omega.{arith}
use Rattle.std.proofs.lemmas.Result.{err_from_is_err_and}
use Rattle.calls.proofs.Checks.{is-order, number_is, told-refused}
use Rattle.word_decoder.specs.Leaves.{summary}
use Rattle.replacer.proofs.Rows.{Replaceable}
use Rattle.replacer.proofs.Replacing.{replace-order, replace-past, replace-unread}
use Rattle.replacer.proofs.Plans.{Told, told-read, plan-place, plan-number, plan-part, plan-room, plan-done}
use Rattle.replacer.proofs.plan.Goals as goal
use Rattle.replacer.proofs.plan.Goals.{Else-place-told, In_ok-told}

pub returns-in_err-order : goal.returns-in_err-order
returns-in_err-order c =
    let p = err_from_is_err_and c.from_residual.result c.from_residual.ensures.1 in
    rw (p.1, p.2, c.in_err-order.ensures.0) (replace-order _ _ _ _ _ c.in_err-order.ensures.1)

pub returns-then-used-buf : goal.returns-then-used-buf
returns-then-used-buf c = replace-past _ _ _ _ _ c.in_ok-order.ensures.1 (omega arith)

pub returns-in_err-told : goal.returns-in_err-told
returns-in_err-told c =
    let p = err_from_is_err_and c.from_residual-in_err-told.result c.from_residual-in_err-told.ensures.1 in
    let o = c.in_ok-order.order in
    let e = told-refused _ (summary o.m c.args.place c.saturating_add-next.result) _ c.in_err-told.ensures in
    rw (p.1, p.2, ← c.in_ok-order.ensures.0) (replace-unread o.m _ _ _ _ (is-order o.m o.in_use) (omega arith) _ e)

-- the row that was read, and what was told of it
read : (c : In_ok-told)
    → let a = c.args in
    Told c.in_ok-order.order.m a.buf.now a.used a.place a.n c.saturating_add-next.result c.in_ok-told.told
read c = let a = c.args in told-read c.in_ok-order.order.m a.buf.now a.used a.place a.n c.saturating_add-next.result _ c.in_ok-told.ensures

pub returns-then-place-told : goal.returns-then-place-told
returns-then-place-told c =
    rw (← c.in_ok-order.ensures.0)
    (plan-place _ _ _ _ _ _ _ c.in_ok-order.order.in_use (omega arith) (read (goal.at.returns-then-place-told c).In_ok-told) (omega arith))

pub returns-then-not-is_number : goal.returns-then-not-is_number
returns-then-not-is_number c =
    rw (← c.in_ok-order.ensures.0)
    (plan-number _ _ _ _ _ _ _ c.in_ok-order.order.in_use (omega arith) (read (goal.at.returns-then-not-is_number c).In_ok-told) (omega arith)
    (sym (rw c.from.ensures at c.if-not-is_number.ensures)))

-- the number at the place is part of what was told
part : (c : Else-place-told) → Replaceable c.in_ok-order.order.m c.in_ok-told.told
part c =
    plan-part _ _ _ _ _ _ _ c.in_ok-order.order.in_use (omega arith) (read (goal.at.Else-place-told c).In_ok-told) (omega arith) c.saturating_add-next.ensures

pub bit_length-old-requires : goal.bit_length-old-requires
bit_length-old-requires c = let r = part (goal.at.bit_length-old-requires c).Else-place-told in (r.some, r.legal)

pub codeword-word-requires : goal.codeword-word-requires
codeword-word-requires c = number_is _ _ (sym (rw c.from.ensures at c.if-not-is_number.ensures))

pub overflow_sub-header : goal.overflow_sub-header
overflow_sub-header c = omega (arith, c.bit_length-old.ensures, (part (goal.at.overflow_sub-header c).Else-place-told).codeword_part)

pub overflow_add-header : goal.overflow_add-header
overflow_add-header c = omega (arith, (part (goal.at.overflow_add-header c).Else-place-told).bits, c.codeword-word.ensures)

pub overflow_sub-header-2 : goal.overflow_sub-header-2
overflow_sub-header-2 c = (part (goal.at.overflow_sub-header-2 c).Else-place-told).part

pub overflow_add-header-2 : goal.overflow_add-header-2
overflow_add-header-2 c =
    omega (arith, (part (goal.at.overflow_add-header-2 c).Else-place-told).total, number_is _ _ (sym (rw c.from.ensures at c.if-not-is_number.ensures)))

pub returns-then-bytes-buf : goal.returns-then-bytes-buf
returns-then-bytes-buf c =
    rw (← c.in_ok-order.ensures.0)
    (plan-room _ _ _ _ _ _ _ c.in_ok-order.order.in_use (omega arith) (read (goal.at.returns-then-bytes-buf c).In_ok-told) (omega arith)
    c.saturating_add-next.ensures (sym (rw c.from.ensures at c.if-not-is_number.ensures)) _ c.codeword-word.result c.bit_length-old.ensures.0 c.codeword-word.ensures (omega arith))

pub returns : goal.returns
returns c =
    rw (← c.in_ok-order.ensures.0)
    (plan-done _ _ _ _ _ _ _ c.in_ok-order.order.in_use (omega arith) (read (goal.at.returns c).In_ok-told) (omega arith)
    c.saturating_add-next.ensures (sym (rw c.from.ensures at c.if-not-is_number.ensures)) _ c.codeword-word.result c.bit_length-old.ensures.0 c.codeword-word.ensures (omega arith))
