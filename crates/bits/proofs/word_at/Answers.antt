use Rattle.std.proofs.Math.Facts.{Fits-lt-pow}
use Rattle.bits.proofs.Put.{word-read}
use Rattle.bits.proofs.word_at.Goals as goal

pub returns : goal.returns
returns c = word-read c.args.s.now c.args.i c.requires (λ j. Fits-lt-pow (c.type_inv.s j)) c.from_be_bytes.ensures
