use Rattle.listing_text.proofs.Answering.{list_refused, list_short, list_done}
use Rattle.listing_text.proofs.list.Goals as goal

pub returns-in-Err : goal.returns-in-Err
returns-in-Err c = list_refused _ _ _ _ _ _ c.in-Err.ensures.refused c.refuse.ensures

pub returns-then-out-size : goal.returns-then-out-size
returns-then-out-size c = list_short _ _ _ _ c.in-Ok.ensures.accepted.1.1 _ c.if-out-size.true

pub returns : goal.returns
returns c = list_done _ _ _ _ c.in-Ok.ensures.accepted.1.1 _ _ c.if-out-size.false (rw c.in-Ok.ensures.accepted.0 at c.put_lines.ensures)
