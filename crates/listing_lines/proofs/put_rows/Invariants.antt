use Rattle.listing_lines.proofs.Lines.{Listed}
use Rattle.listing_lines.proofs.put_rows.Given as goal

abbrev pub invariant-loop-i : goal.invariant-loop-i
invariant-loop-i l = Listed l.order.m l.row l.i l.total l.out l.initial.out
