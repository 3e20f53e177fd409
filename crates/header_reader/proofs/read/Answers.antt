use Rattle.std.proofs.Common.{refl}
use Rattle.std.proofs.lemmas.Result.{err_from_is_err_and}
use Rattle.calls.specs.Limits.{max_number}
use Rattle.calls.specs.Reading.{decode}
use Rattle.calls.proofs.Checks.{told-refused}
use Rattle.reading.specs.Reading.{fibonacci}
use Rattle.word_decoder.specs.Leaves.{summary}
use Rattle.decoder.proofs.Telling.{told_next}
use Rattle.header_reader.specs.Reading.{read_header}
use Rattle.header_reader.proofs.read.Goals as goal

pub returns-in_err-order : goal.returns-in_err-order
unfolding read_header
returns-in_err-order c =
    let p = err_from_is_err_and c.from_residual.result c.from_residual.ensures.1 in
    rw (p.1, p.2, c.in_err-order.ensures.0, c.in_err-order.ensures.1) refl

pub returns-in_err-told : goal.returns-in_err-told
unfolding read_header
returns-in_err-told c =
    let p = err_from_is_err_and c.from_residual-in_err-told.result c.from_residual-in_err-told.ensures.1 in
    let o = c.in_ok-order in
    let why = told-refused (decode (fibonacci o.order.m) max_number c.args.s.now) (summary o.order.m 0 0) _ c.in_err-told.ensures in
    rw (p.1, p.2, o.ensures.1, ← o.ensures.0, why) refl

pub returns : goal.returns
unfolding read_header
returns c =
    let o = c.in_ok-order in
    rw (o.ensures.1, ← o.ensures.0) (told_next _ (summary o.order.m 0 0) c.in_ok-told.told _ _ c.in_ok-told.ensures (λ row is. rw is refl))
