use Rattle.std.proofs.lemmas.Result.{err_from_is_err_and}
use Rattle.table_decoder.proofs.Answering.{table-row, table-refused}
use Rattle.table_decoder.proofs.read.Goals as goal

pub returns-in_err-count : goal.returns-in_err-count
returns-in_err-count c =
    let p = err_from_is_err_and c.from_residual.result c.from_residual.ensures.1 in
    rw (p.1, p.2) (table-refused _ _ _ _ c.in_err-count.ensures)

pub returns : goal.returns
returns c = let e = c.deliver.ensures in table-row _ _ _ _ c.in_ok-count.ensures _ _ e.answer e.output
