use mathlib.Core.Path.{◌∙◌}
use native.Mathlib.Omega.{arith}
use Rattle.bits.proofs.Put.{word-length}
use Rattle.bit_moves.proofs.Moves.{stored, moved-end, moved-rest}
use Rattle.bit_moves.proofs.Shift.move_last.Goals as goal

pub loop-next-preserved : goal.loop-next-preserved
loop-next-preserved c =
    let l = c.loop-next in
    let m = c.args.self in
    let x = stored l.s _ c.store.new.s l.next c.min-n.result (omega (arith, c.min-n.ensures)) (word-length c.min-n.result _) c.store.ensures in
    let r =
    moved-rest m.used c.args.end m.gap m.held l.s l.next l.word c.word_or_zeros-w.result c.joined.result c.min-n.result c.word_or_zeros-w.ensures c.joined.ensures
    c.min-n.ensures (omega arith) (omega arith) _ x in
    (omega (arith, c.min-n.ensures), r.0 ∙ l.invariant.1, r.1 ∙ l.invariant.2, r.2 ∙ l.invariant.3)

pub returns : goal.returns
returns c =
    let l = c.loop-next in
    let m = c.args.self in
    moved-end m.used m.gap m.held c.args.end l.next l.word l.s c.args.s.now _ (omega arith) (omega arith) (omega arith) l.invariant.2 l.invariant.3
