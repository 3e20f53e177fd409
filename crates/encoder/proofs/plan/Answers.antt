use native.Mathlib.Omega.{arith}
use Rattle.std.proofs.lemmas.Result.{err_from_is_err_and}
use Rattle.encoder.proofs.Writing.{write-count, write-number, write-room, write_done}
use Rattle.encoder.proofs.plan.Goals as goal

pub returns-then-row-gt-MAX_COUNT : goal.returns-then-row-gt-MAX_COUNT
returns-then-row-gt-MAX_COUNT c = write-count _ _ _ c.args.order.in_use c.if-row-gt-MAX_COUNT.true

pub returns-in_err-header : goal.returns-in_err-header
returns-in_err-header c =
    let p = err_from_is_err_and c.from_residual.result c.from_residual.ensures.1 in
    rw (p.1, p.2) (write-number _ _ _ c.args.order.in_use (omega arith) _ _ c.in_err-header.ensures)

pub returns-then-room-bytes : goal.returns-then-room-bytes
returns-then-room-bytes c = write-room _ _ _ c.args.order.in_use (omega arith) _ c.in_ok-header.ensures (omega arith)

pub returns : goal.returns
returns c = rw c.bytes-bytes.ensures (write_done _ _ _ c.args.order.in_use (omega arith) _ c.in_ok-header.ensures (omega arith))
