use Rattle.word_decoder.proofs.Told.{summary_none}
use Rattle.word_decoder.proofs.Summary.empty.Goals as goal

pub returns : goal.returns
returns c = summary_none
