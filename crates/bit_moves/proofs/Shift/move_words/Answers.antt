use native.Mathlib.Omega.{arith}
use Rattle.bits.proofs.Put.{word-length}
use Rattle.bit_moves.proofs.Moves.{stored, moved_word}
use Rattle.bit_moves.proofs.Shift.move_words.Goals as goal

pub loop-next-preserved : goal.loop-next-preserved
loop-next-preserved c =
    let l = c.loop-next in
    let m = c.args.self in
    let x = stored l.s _ c.store.new.s l.next 8 (omega arith) (word-length 8 c.joined.result) c.store.ensures in
    let moved =
    moved_word m.used m.gap m.held _ c.args.s.now l.s l.next l.word c.word_at-w.result c.joined.result l.invariant.0 (omega arith) (omega arith)
    c.word_at-w.ensures c.joined.ensures _ x in
    (moved, omega arith)
