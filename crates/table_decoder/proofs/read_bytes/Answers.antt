use Rattle.std.proofs.lemmas.Result.{err_from_is_err_and}
use Rattle.table_decoder.proofs.Answering.{bytes-room, bytes-row, bytes-refused}
use Rattle.table_decoder.proofs.read_bytes.Goals as goal

pub returns-in_err-count : goal.returns-in_err-count
returns-in_err-count c =
    let p = err_from_is_err_and c.from_residual.result c.from_residual.ensures.1 in
    rw (p.1, p.2) (bytes-refused _ _ _ _ c.in_err-count.ensures)

pub returns-then-out-count : goal.returns-then-out-count
returns-then-out-count c = bytes-room _ _ _ _ c.in_ok-count.ensures c.if-out-count.true

pub returns : goal.returns
returns c = rw c.put_row.ensures (bytes-row _ _ _ _ c.in_ok-count.ensures c.if-out-count.false)
