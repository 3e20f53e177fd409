use Rattle.std.proofs.Common.{refl, length}
use Rattle.std.proofs.lemmas.Result.{err_from_is_err_and}
use borrow.Author.Tests.{lt-ltb, le-ltb}
use Rattle.calls.specs.Limits.{max_number}
use Rattle.calls.specs.Reading.{decode}
use Rattle.calls.proofs.Checks.{told-refused}
use Rattle.reading.specs.Reading.{fibonacci}
use Rattle.word_decoder.specs.Leaves.{summary}
use Rattle.decoder.proofs.Telling.{told_next}
use Rattle.totals.specs.Totals.{total}
use Rattle.totals.proofs.total.Goals as goal

pub returns-in_err-order : goal.returns-in_err-order
unfolding total
returns-in_err-order c =
    let p = err_from_is_err_and c.from_residual.result c.from_residual.ensures.1 in
    rw (p.1, p.2, c.in_err-order.ensures.0, c.in_err-order.ensures.1) refl

pub returns-in_err-told : goal.returns-in_err-told
unfolding total
returns-in_err-told c =
    let p = err_from_is_err_and c.from_residual-in_err-told.result c.from_residual-in_err-told.ensures.1 in
    let o = c.in_ok-order in
    let why = told-refused (decode (fibonacci o.order.m) max_number c.args.s.now) (summary o.order.m c.args.a c.args.b) _ c.in_err-told.ensures in
    rw (p.1, p.2, o.ensures.1, ← o.ensures.0, why) refl

pub returns-then-a-b : goal.returns-then-a-b
unfolding total
returns-then-a-b c =
    let o = c.in_ok-order in
    rw (o.ensures.1, ← o.ensures.0)
    (told_next _ (summary o.order.m c.args.a c.args.b) c.in_ok-told.told _ _ c.in_ok-told.ensures (λ row is. simp (lt-ltb _ _ c.if-a-b.true)))

pub returns-then-b-told : goal.returns-then-b-told
unfolding total
returns-then-b-told c =
    let o = c.in_ok-order in
    rw (o.ensures.1, ← o.ensures.0)
    (told_next _ (summary o.order.m c.args.a c.args.b) c.in_ok-told.told _ _ c.in_ok-told.ensures
    (λ row is. simp (le-ltb _ _ c.if-a-b.false, lt-ltb (length row) c.args.b (rw is at c.if-b-told.true))))

pub returns : goal.returns
unfolding total
returns c =
    let o = c.in_ok-order in
    rw (o.ensures.1, ← o.ensures.0)
    (told_next _ (summary o.order.m c.args.a c.args.b) c.in_ok-told.told _ _ c.in_ok-told.ensures
    (λ row is. simp (le-ltb _ _ c.if-a-b.false, le-ltb (length row) c.args.b (rw is at c.if-b-told.false)) (rw is refl)))
