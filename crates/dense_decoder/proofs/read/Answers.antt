use Rattle.std.proofs.lemmas.Result.{err_from_is_err_and}
use Rattle.dense_decoder.proofs.Reading.{read-stoppers, delivered-read, refused-read}
use Rattle.dense_decoder.proofs.read.Goals as goal

pub returns-in_err-stoppers : goal.returns-in_err-stoppers
returns-in_err-stoppers c =
    let p = err_from_is_err_and c.from_residual.result c.from_residual.ensures.1 in
    rw (p.1, p.2, c.in_err-stoppers.ensures.0) (read-stoppers _ _ _ c.in_err-stoppers.ensures.1)

pub returns-in_err-count : goal.returns-in_err-count
returns-in_err-count c =
    let p = err_from_is_err_and c.from_residual-in_err-count.result c.from_residual-in_err-count.ensures.1 in
    rw (p.1, p.2, ← c.in_ok-stoppers.ensures.0) (refused-read _ _ _ c.in_ok-stoppers.stoppers.legal _ _ c.in_err-count.ensures)

pub returns-then-b-le64 : goal.returns-then-b-le64
returns-then-b-le64 c = rw (← c.in_ok-stoppers.ensures.0) (delivered-read _ _ _ c.in_ok-stoppers.stoppers.legal _ _ _ _ c.in_ok-count.ensures c.deliver.ensures.answer c.deliver.ensures.output)

pub returns-in_err-count-2 : goal.returns-in_err-count-2
returns-in_err-count-2 c =
    let p = err_from_is_err_and c.from_residual-in_err-count-2.result c.from_residual-in_err-count-2.ensures.1 in
    rw (p.1, p.2, ← c.in_ok-stoppers.ensures.0) (refused-read _ _ _ c.in_ok-stoppers.stoppers.legal _ _ c.in_err-count-2.ensures)

pub returns : goal.returns
returns c = rw (← c.in_ok-stoppers.ensures.0) (delivered-read _ _ _ c.in_ok-stoppers.stoppers.legal _ _ _ _ c.in_ok-count-2.ensures c.deliver-2.ensures.answer c.deliver-2.ensures.output)
