use native.Mathlib.Omega.{arith}
use Rattle.std.proofs.lemmas.Result.{err_from_is_err_and}
use Rattle.reading.proofs.Decoding.{read-order, delivered-read, refused-read}
use Rattle.decoder.proofs.read.Goals as goal

pub returns-in_err-order : goal.returns-in_err-order
returns-in_err-order c =
    let p = err_from_is_err_and c.from_residual.result c.from_residual.ensures.1 in
    rw (p.1, p.2, c.in_err-order.ensures.0) (read-order _ _ _ c.in_err-order.ensures.1)

pub store_row-requires : goal.store_row-requires
store_row-requires c = omega arith

pub returns-in_err-count : goal.returns-in_err-count
returns-in_err-count c =
    let p = err_from_is_err_and c.from_residual-in_err-count.result c.from_residual-in_err-count.ensures.1 in
    let e = c.in_ok-order.ensures in
    rw (p.1, p.2) (refused-read _ _ _ _ _ e.1 (rw e.0 at c.in_err-count.ensures))

pub returns-then-s-le16 : goal.returns-then-s-le16
returns-then-s-le16 c =
    let e = c.in_ok-order.ensures in
    delivered-read _ _ _ _ _ _ _ e.1 (rw e.0 at c.in_ok-count.ensures) c.deliver.ensures.answer c.deliver.ensures.output

pub returns-in_err-count-2 : goal.returns-in_err-count-2
returns-in_err-count-2 c =
    let p = err_from_is_err_and c.from_residual-in_err-count-2.result c.from_residual-in_err-count-2.ensures.1 in
    let e = c.in_ok-order.ensures in
    rw (p.1, p.2) (refused-read _ _ _ _ _ e.1 (rw e.0 at c.in_err-count-2.ensures))

pub returns : goal.returns
returns c =
    let e = c.in_ok-order.ensures in
    delivered-read _ _ _ _ _ _ _ e.1 (rw e.0 at c.in_ok-count-2.ensures) c.deliver-2.ensures.answer c.deliver-2.ensures.output
