use native.Mathlib.Omega.{arith}
use Rattle.fibonacci.proofs.Lookup.{codeword-short}
use Rattle.codewords.proofs.Codewords.{body_is}
use Rattle.codewords.proofs.body_length.Goals as goal

pub returns : goal.returns
returns c =
    let o = c.args.order in
    let g = c.guess-d in
    let long = body_is o.m c.args.n g.result o.in_use c.requires.0 g.ensures.0 g.ensures.1 in
    rw (c.one_if_reached-one.ensures, c.one_if_reached-two.ensures, c.one_if_reached-three.ensures)
    (long, omega (arith, long, codeword-short _ _ o.in_use c.requires.0 c.requires.1))
