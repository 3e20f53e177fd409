use Rattle.std.proofs.Common.{◌≡◌, rules, not, Some, None}
use Rattle.std.proofs.lemmas.Iterator.{YieldsList-from_slice}
use Rattle.std.proofs.lemmas.Iterator.Search.{position_from_yields_List}
use borrow.Author.Tests.{tests}
use Rattle.std.specs.Prelude.{position}
use Rattle.calls.specs.declared.Refusal.TheVariants.{BadNumber}
use Rattle.calls.specs.Limits.{max_number, is_number}
use Rattle.dense_encoder.proofs.Checking.{each-first}
use Rattle.dense_encoder.proofs.check_each.Goals as goal
use Rattle.dense_encoder.proofs.check_each.Goals.{After-position-first}

-- the place that is found
found : (c : After-position-first) → c.position-first.result ≡ position (λ n. not (is_number max_number n)) c.args.row.now
found c =
    position_from_yields_List (λ n. not (is_number max_number n)) _ _ _ c.position-first.ensures.ran (YieldsList-from_slice c.args.row.now cc) (λ x b q k. search (rules, tests))

pub returns-in-Some : goal.returns-in-Some
returns-in-Some c = each-first BadNumber max_number c.args.row.now (Some c.in-Some.place) _ (found (goal.at.returns-in-Some c).After-position-first) c.in-Some.is

pub returns-in-None : goal.returns-in-None
returns-in-None c = each-first BadNumber max_number c.args.row.now None _ (found (goal.at.returns-in-None c).After-position-first) c.in-None.is
