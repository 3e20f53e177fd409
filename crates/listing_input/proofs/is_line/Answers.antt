use Rattle.std.proofs.Common.{◌∙◌, ap}
use Rattle.std.specs.Str.{bytes_eq}
use Rattle.listing_input.proofs.Input.{line_made}
use Rattle.listing_input.proofs.is_line.Goals as goal

pub returns : goal.returns
returns c = c.eq.ensures ∙ ap (bytes_eq c.args.line.now) (c.as_slice.ensures ∙ c.put.ensures ∙ line_made c.args.n)
