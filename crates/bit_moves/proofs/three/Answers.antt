use Rattle.bit_moves.proofs.Words.{words-three}
use Rattle.bit_moves.proofs.three.Goals as goal

pub returns : goal.returns
returns c =
    let a = c.args in
    words-three a.kept a.o a.word.bits a.word.len a.last a.p (c.requires.0, c.requires.1, a.word.fits.2, c.requires.2)
