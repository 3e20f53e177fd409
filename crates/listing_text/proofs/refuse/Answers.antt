use Rattle.std.proofs.Common.{◌≡◌}
use Rattle.std.proofs.lemmas.List.Edits.{sets}
use Rattle.calls.specs.Refusals.{reason}
use Rattle.listing_text.specs.Listing.{refusal_line}
use Rattle.listing_text.proofs.Printing.{refusal-length, puts_short, puts_done, refusal_put}
use Rattle.listing_text.proofs.refuse.Goals as goal

pub returns-then-out-lt8 : goal.returns-then-out-lt8
returns-then-out-lt8 c = puts_short _ _ 8 (refusal-length _) c.if-out-lt8.true

pub returns : goal.returns
returns c =
    let number = (reason c.args.r).0 in
    let whole : c.put_text-2.new.out ≡ sets c.args.out.now 0 (refusal_line number) = cc (refusal_put c.args.out.now number) in
    puts_done _ _ 8 (refusal-length _) _ c.if-out-lt8.false whole
