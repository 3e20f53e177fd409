use Rattle.std.proofs.Common.{arith, ℕ, length-take}
use Rattle.std.proofs.lemmas.Result.{err_from_is_err_and}
use Rattle.dense_encoder.proofs.Writing.{write-stoppers, write-refused, write-asks, write-put}
use Rattle.dense_encoder.proofs.write.Goals as goal

pub returns-in_err-stoppers : goal.returns-in_err-stoppers
returns-in_err-stoppers c =
    let p = err_from_is_err_and c.from_residual.result c.from_residual.ensures.1 in
    rw (p.1, p.2, c.in_err-stoppers.ensures.0) (write-stoppers _ _ _ c.in_err-stoppers.ensures.1)

pub returns-in_err-bytes : goal.returns-in_err-bytes
returns-in_err-bytes c =
    let p = err_from_is_err_and c.from_residual-in_err-bytes.result c.from_residual-in_err-bytes.ensures.1 in
    rw (p.1, p.2, ← c.in_ok-stoppers.ensures.0) (c.in_err-bytes.ensures, write-refused _ _ _ _ c.in_err-bytes.ensures)

pub slice_bounds-put_row-end : goal.slice_bounds-put_row-end
slice_bounds-put_row-end c = (write-asks _ _ _ _ c.in_ok-bytes.ensures).3

pub slice_bounds-put_row-end-2 : goal.slice_bounds-put_row-end-2
slice_bounds-put_row-end-2 c = omega (arith, write-asks _ _ _ _ c.in_ok-bytes.ensures, length-take {A = ℕ})

pub put_row-requires : goal.put_row-requires
put_row-requires c =
    let x = write-asks _ _ _ _ c.in_ok-bytes.ensures in
    (x.1, omega (arith, x, length-take {A = ℕ}))

pub returns : goal.returns
returns c =
    rw (← c.in_ok-stoppers.ensures.0) (c.in_ok-bytes.ensures, write-put _ _ _ _ c.in_ok-bytes.ensures c.put_row.ensures)
