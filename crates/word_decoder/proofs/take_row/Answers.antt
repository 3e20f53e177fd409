use mathlib.Core.Path.{refl, ◌∙◌}
use mathlib.Core.List.{[], ◌∷◌}
use mathlib.Core.Logic.{inr}
use native.Mathlib.Omega.{arith}
use native.Mathlib.Numerals.{add-one}
use lib.ListN.{length-set}
use lib.Seq.{take-suc-set}
use Rattle.word_decoder.proofs.Taking.{decoded-none, decoded-more}
use Rattle.word_decoder.proofs.take_row.Goals as goal

pub loop-count-init : goal.loop-count-init
loop-count-init c =
    let s = c.start-cursor.ensures in
    record { same = s.0; decoded = rw s.1 (decoded-none _ _ _); long = refl }

pub returns-in_default : goal.returns-in_default
returns-in_default c =
    let v = c.loop-count.invariant in
    let none = rw v.same at c.in_default.ensures.taken in
    rw none.0 ((v.decoded, v.long), inr none.1)

pub overflow_cast-row : goal.overflow_cast-row
overflow_cast-row c = omega (arith, c.in-Some.ensures.few)

pub loop-count-preserved : goal.loop-count-preserved
loop-count-preserved c =
    let v = c.loop-count.invariant in
    let row = c.loop-count.row in
    let count = c.loop-count.count in
    let n = c.in-Some.n in
    let more = decoded-more v.decoded _ 1 (n ∷ []) (rw v.same at c.in-Some.ensures.taken) refl (omega (arith, c.min-most.ensures)) in
    record {
      same = c.next.ensures.same ∙ v.same;
      decoded = rw (add-one count, take-suc-set row count n (omega (arith, v.long, c.min-most.ensures)), ← add-one count) more;
      long = length-set row count n ∙ v.long;
    }
