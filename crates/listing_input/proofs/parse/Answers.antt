use Rattle.std.proofs.Common.{◌∙◌, arith}
use Rattle.std.proofs.Math.ListN.{length-set}
use Rattle.std.proofs.lemmas.Bool.Decides.{nat_tests}
use Rattle.listing_input.proofs.Input.{input_none, input_rest, parsed_other, parsed_more, parsed_end}
use Rattle.listing_input.proofs.parse.Goals as goal
use Rattle.listing_input.proofs.parse.Goals.{then-is_empty-via-then-is_empty, then-is_empty-via-else-is_empty+then-input-ne0}

pub returns-then-is_empty-clause-found : goal.returns-then-is_empty-clause-found
returns-then-is_empty-clause-found c =
    elim c.then-is_empty.branch [
      | then-is_empty-via-then-is_empty w ↦ input_none _ _ (grind (arith, nat_tests))
      | then-is_empty-via-else-is_empty+then-input-ne0 w ↦ input_rest _ _ w.if-input-ne0.true
    ]

pub returns-then-not-is_line-clause-found : goal.returns-then-not-is_line-clause-found
returns-then-not-is_line-clause-found c =
    let h = c.in-Some.ensures.steps in
    parsed_other _ _ _ _ c.loop-i.invariant.2 _ _ _ h.0.1.0 (omega arith) c.decimal-n.ensures (cc)

pub loop-i-preserved : goal.loop-i-preserved
loop-i-preserved c =
    let h = c.in-Some.ensures.steps in
    let l = c.loop-i.invariant in (
      omega arith,
      length-set c.loop-i.numbers c.in-Some.i _ ∙ l.1,
      rw (h.1, h.2) (parsed_more _ _ _ _ l.2 _ _ _ h.0.1.0 (omega arith) c.decimal-n.ensures _ (cc) (omega arith) c.clip.ensures),
    )

pub returns-clause-found : goal.returns-clause-found
returns-clause-found c = let h = c.in-None.ensures.steps in parsed_end _ _ _ _ c.loop-i.invariant.2 (omega arith) (omega arith)
