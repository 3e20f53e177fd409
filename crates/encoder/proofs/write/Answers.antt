use Rattle.std.proofs.Math.Facts.{Fits-lt-pow}
use Rattle.std.proofs.lemmas.Result.{err_from_is_err_and}
use Rattle.encoder.proofs.Writing.{write-order, write-refused, write-asks, write-put}
use Rattle.encoder.proofs.write.Goals as goal
use Rattle.encoder.proofs.write.Goals.{In_ok-bytes}

pub returns-in_err-order : goal.returns-in_err-order
returns-in_err-order c =
    let p = err_from_is_err_and c.from_residual.result c.from_residual.ensures.1 in
    rw (p.1, p.2, c.in_err-order.ensures.0) (write-order _ _ _ c.in_err-order.ensures.1)

pub returns-in_err-bytes : goal.returns-in_err-bytes
returns-in_err-bytes c =
    let p = err_from_is_err_and c.from_residual-in_err-bytes.result c.from_residual-in_err-bytes.ensures.1 in
    rw (p.1, p.2, ← c.in_ok-order.ensures.0) (c.in_err-bytes.ensures, write-refused _ _ _ _ c.in_err-bytes.ensures)

pub put_row-requires : goal.put_row-requires
put_row-requires c =
    let x = write-asks _ _ _ _ _ c.in_ok-bytes.ensures in
    record { count = x.0; legal = x.1; bytes_are = x.2; within = x.3 }

pub returns : goal.returns
returns c =
    let x = (goal.at.returns c).In_ok-bytes in
    let e = c.in_ok-bytes.ensures in
    rw (← c.in_ok-order.ensures.0)
    (e, write-put _ _ _ _ _ e _ (λ i. Fits-lt-pow (x.type_inv.out i)) (λ i. Fits-lt-pow (c.type_inv.out i)) c.put_row.ensures)
