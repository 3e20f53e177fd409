use Rattle.rank_select.proofs.Sums.{word-ones}
use Rattle.rank_select.proofs.ones_of_word.Goals as goal

pub returns : goal.returns
returns c = word-ones c.args.w.now c.told-w c.fits-w c.from_be_bytes.ensures
