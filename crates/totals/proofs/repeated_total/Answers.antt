use Rattle.std.proofs.Common.{refl, sym, ap, ◌∙◌, arith, ◌+◌, ◌-◌, ◌*◌, ◌≤◌, Ok}
use Rattle.std.proofs.lemmas.Result.{err_from_is_err_and}
use borrow.Author.Tests.{lt-ltb, le-ltb, lt-leb, le-leb}
use Rattle.lists.specs.Lists.{sum}
use Rattle.calls.specs.Limits.{max_number, max_count}
use Rattle.calls.specs.Reading.{decode}
use Rattle.calls.proofs.Checks.{told-accepted, told-refused}
use Rattle.reading.specs.Reading.{fibonacci}
use Rattle.word_decoder.specs.declared.Summary.{Summary}
use Rattle.word_decoder.specs.Leaves.{summary}
use Rattle.decoder.proofs.Telling.{told_next}
use Rattle.totals.specs.Totals.{repeated_total}
use Rattle.totals.proofs.Totals.{row-most, repeats-most, repeats-less}
use Rattle.totals.proofs.repeated_total.Goals as goal
use Rattle.totals.proofs.repeated_total.Goals.{Else-shared-once, then-repeats-eq0-via-then-repeats-eq0, then-repeats-eq0-via-else-repeats-eq0+then-repeats-gt10000}

pub returns-in_err-order : goal.returns-in_err-order
unfolding repeated_total
returns-in_err-order c =
    let p = err_from_is_err_and c.from_residual.result c.from_residual.ensures.1 in
    rw (p.1, p.2, c.in_err-order.ensures.0, c.in_err-order.ensures.1) refl

pub returns-in_err-told : goal.returns-in_err-told
unfolding repeated_total
returns-in_err-told c =
    let p = err_from_is_err_and c.from_residual-in_err-told.result c.from_residual-in_err-told.ensures.1 in
    let o = c.in_ok-order in
    let why = told-refused (decode (fibonacci o.order.m) max_number c.args.s.now) (summary o.order.m 0 0) _ c.in_err-told.ensures in
    rw (p.1, p.2, o.ensures.1, ← o.ensures.0, why) refl

pub returns-then-repeats-eq0 : goal.returns-then-repeats-eq0
unfolding repeated_total
returns-then-repeats-eq0 c =
    let o = c.in_ok-order in
    rw (o.ensures.1, ← o.ensures.0)
    (told_next _ (summary o.order.m 0 0) c.in_ok-told.told _ _ c.in_ok-told.ensures
    (λ row is.
    elim c.then-repeats-eq0.branch [
      | then-repeats-eq0-via-then-repeats-eq0 w ↦ simp (lt-leb 1 c.args.repeats (omega (arith, w.if-repeats-eq0.true)))
      | then-repeats-eq0-via-else-repeats-eq0+then-repeats-gt10000 w ↦
          simp (le-leb 1 c.args.repeats (omega (arith, w.if-repeats-eq0.false)), lt-leb c.args.repeats 10000 w.if-repeats-gt10000.true)
    ]))

pub returns-then-shared-once : goal.returns-then-shared-once
unfolding repeated_total
returns-then-shared-once c =
    let o = c.in_ok-order in
    rw (o.ensures.1, ← o.ensures.0)
    (told_next _ (summary o.order.m 0 0) c.in_ok-told.told _ _ c.in_ok-told.ensures
    (λ row is. simp (le-leb 1 c.args.repeats (omega (arith, c.if-repeats-eq0.false)), le-leb c.args.repeats 10000 c.if-repeats-gt10000.false, lt-ltb (sum row) c.args.shared (rw is at c.if-shared-once.true))))

-- the repeats and what they share have passed their checks, and nothing that is computed is above the largest there is
passed : (c : Else-shared-once)
    → let a = c.args in
    let once = c.in_ok-told.told.all in
    (1 ≤ a.repeats) × (a.shared ≤ once) × (once + (a.repeats - 1) * (once - a.shared) ≤ 10000 * (max_number * max_count))
passed c =
    let a = c.args in
    let once = c.in_ok-told.told.all in
    let o = c.in_ok-order in
    let r = told-accepted _ (summary o.order.m 0 0) _ c.in_ok-told.ensures in
    let some : 1 ≤ a.repeats = omega (arith, c.if-repeats-eq0.false) in
    let small : once ≤ max_number * max_count = omega (arith, row-most _ _ r.0 r.1, ap (λ (f : Summary). f.all) r.2) in
    (some, c.if-shared-once.false, repeats-most a.repeats once a.shared some c.if-shared-once.false c.if-repeats-gt10000.false small)

pub overflow_mul-result : goal.overflow_mul-result
overflow_mul-result c = omega (arith, (passed c).2)

pub overflow_add-result : goal.overflow_add-result
overflow_add-result c = omega (arith, (passed c).2)

pub returns : goal.returns
unfolding repeated_total
returns c =
    let o = c.in_ok-order in
    let h = passed (goal.at.returns c).Else-shared-once in
    ap Ok (sym (repeats-less c.args.repeats c.in_ok-told.told.all c.args.shared h.0 h.1))
    ∙ rw (o.ensures.1, ← o.ensures.0)
    (told_next _ (summary o.order.m 0 0) c.in_ok-told.told _ _ c.in_ok-told.ensures
    (λ row is. simp (le-leb 1 c.args.repeats h.0, le-leb c.args.repeats 10000 c.if-repeats-gt10000.false, le-ltb (sum row) c.args.shared (rw is at h.1)) (rw is refl)))
