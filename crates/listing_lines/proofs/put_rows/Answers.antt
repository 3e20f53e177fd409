use Rattle.std.proofs.Common.{arith}
use Rattle.listing_lines.proofs.Lines.{legal_small, listed_more, listed-end}
use Rattle.listing_lines.proofs.put_rows.Goals as goal

pub loop-i-preserved : goal.loop-i-preserved
loop-i-preserved c =
    let l = c.loop-i in
    let small = legal_small c.args.row.now l.i c.requires.1 (omega arith) in
    listed_more c.args.order.m c.args.row.now l.i l.total l.out c.args.out.now l.invariant c.from-n.result _ _ (omega arith) c.from-n.ensures (omega arith)
    c.bit_length-bits.ensures.0 c.put_line.ensures

pub returns : goal.returns
returns c = let l = c.loop-i in listed-end c.args.order.m c.args.row.now l.i l.total l.out c.args.out.now l.invariant (omega arith)
