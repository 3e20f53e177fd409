use Rattle.listing_text.proofs.Printing.{puts_same}
use Rattle.listing_text.proofs.Answering.{text_long, text_refused, text_listed}
use Rattle.listing_text.proofs.listing.Goals as goal

pub returns-then-input-gt-MAX_INPUT_BYTES : goal.returns-then-input-gt-MAX_INPUT_BYTES
returns-then-input-gt-MAX_INPUT_BYTES c = puts_same _ _ _ _ _ (text_long _ c.if-input-gt-MAX_INPUT_BYTES.true) c.refuse.ensures

pub slice_bounds-list-count : goal.slice_bounds-list-count
slice_bounds-list-count c = (text_listed _ c.if-input-gt-MAX_INPUT_BYTES.false _ _ c.in-Ok.ensures.found).0

pub slice_bounds-list-start : goal.slice_bounds-list-start
slice_bounds-list-start c = (text_listed _ c.if-input-gt-MAX_INPUT_BYTES.false _ _ c.in-Ok.ensures.found).0

pub returns-in-Err : goal.returns-in-Err
returns-in-Err c = puts_same _ _ _ _ _ (text_refused _ c.if-input-gt-MAX_INPUT_BYTES.false _ c.in-Err.ensures.found.0) c.refuse-in-Err.ensures

pub returns-in-Ok : goal.returns-in-Ok
returns-in-Ok c = puts_same _ _ _ _ _ (text_listed _ c.if-input-gt-MAX_INPUT_BYTES.false _ _ c.in-Ok.ensures.found).2 c.list.ensures
