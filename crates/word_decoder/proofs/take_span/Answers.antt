use mathlib.Core.Path.{sym, ◌∙◌}
use native.Mathlib.Omega.{arith}
use Rattle.word_decoder.proofs.Told.{told-none, spanned-none, part-room, part-more, part-stopped}
use Rattle.word_decoder.proofs.take_span.Goals as goal

pub loop-told-init : goal.loop-told-init
loop-told-init c =
    let s = c.start-cursor.ensures in
    let f = c.args.span in
    let none = c.empty-told.ensures c.args.encoding.order.m f.from f.to in
    record { same = s.0; at = s.1 ∙ sym (told-none _ _ _ _ none); spanned = spanned-none _ _ _ _ _ _ none }

pub with-told-requires : goal.with-told-requires
with-told-requires c =
    let v = c.loop-told.invariant in
    let s = rw v.same at c.take_sum-part.ensures.taken in
    part-room v.spanned _ _ v.at c.loop-told-test.true c.part_end.ensures _ s (omega arith)

pub loop-told-smaller : goal.loop-told-smaller
loop-told-smaller c =
    let v = c.loop-told.invariant in
    let s = rw v.same at c.take_sum-part.ensures.taken in
    let more = part-more v.spanned _ _ v.at c.loop-told-test.true c.part_end.ensures _ s _ c.with-told.ensures in
    omega (arith, more.2, c.if-part-most.false, c.part_end.ensures.1 c.loop-told-test.true)

pub loop-told-preserved : goal.loop-told-preserved
loop-told-preserved c =
    let v = c.loop-told.invariant in
    let s = rw v.same at c.take_sum-part.ensures.taken in
    let more = part-more v.spanned _ _ v.at c.loop-told-test.true c.part_end.ensures _ s _ c.with-told.ensures in
    record { same = c.take_sum-part.ensures.same ∙ v.same; at = c.take_sum-part.ensures.at ∙ sym more.1; spanned = more.0 }

pub returns-then-part-most : goal.returns-then-part-most
returns-then-part-most c =
    let v = c.loop-told.invariant in
    let s = rw v.same at c.take_sum-part.ensures.taken in
    let more = part-more v.spanned _ _ v.at c.loop-told-test.true c.part_end.ensures _ s _ c.with-told.ensures in
    (more.0, rw more.1 (part-stopped v.spanned _ _ v.at c.loop-told-test.true c.part_end.ensures _ s _ _ c.if-part-most.true))
