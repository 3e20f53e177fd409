use mathlib.Core.Path.{sym, ◌∙◌}
use native.Mathlib.Omega.{arith}
use Rattle.std.proofs.lemmas.Result.{err_from_is_err_and}
use Rattle.table_scan.proofs.Walking.{refuses, walked_start, looked-up, walked-open, walked_many, walked-shut, walked-refused, walked-padding, walked-rest}
use Rattle.table_scan.proofs.walk.Goals as goal
use Rattle.table_scan.proofs.walk.Goals.{then-r-eq0, else-r-eq0+else-count-eq-MAX_COUNT+in_ok-count}

pub loop-byte-init : goal.loop-byte-init
loop-byte-init c = rw c.new-pending.ensures (walked_start _ _ _ (omega arith))

pub returns-then-count-eq-MAX_COUNT : goal.returns-then-count-eq-MAX_COUNT
returns-then-count-eq-MAX_COUNT c =
    let step = looked-up c.loop-byte.invariant c.loop-byte-test.true c.from.ensures (omega arith) c.look_up-r.ensures c.moved.ensures.0 in
    refuses _ _ _ (walked_many c.loop-byte.invariant step c.if-r-eq0.false (omega arith))

pub returns-in_err-count : goal.returns-in_err-count
returns-in_err-count c =
    let step = looked-up c.loop-byte.invariant c.loop-byte-test.true c.from.ensures (omega arith) c.look_up-r.ensures c.moved.ensures.0 in
    let number = rw c.requires at c.number-first.ensures in
    let p = err_from_is_err_and c.from_residual.result c.from_residual.ensures.1 in
    rw (p.1, p.2) (refuses _ _ _ (walked-refused c.loop-byte.invariant step c.if-r-eq0.false _ number (omega arith) _ c.in_err-count.ensures.answer))

pub loop-byte-preserved : goal.loop-byte-preserved
loop-byte-preserved c =
    let step = looked-up c.loop-byte.invariant c.loop-byte-test.true c.from.ensures (omega arith) c.look_up-r.ensures c.moved.ensures.0 in
    elim c.if-r-eq0.branch [
      | then-r-eq0 w ↦ rw (w.row-is, w.count-is, w.pending-is, w.new-pending-then-r-eq0.ensures, w.min.ensures) (walked-open c.loop-byte.invariant step w.if-r-eq0.true c.moved.ensures.1)
      | else-r-eq0+else-count-eq-MAX_COUNT+in_ok-count w ↦
          let number = rw c.requires at w.number-first.ensures in
          let e = w.in_ok-count.ensures in
          rw (w.row-is, w.count-is, w.pending-is, w.new-pending-else-r-eq0.ensures) (walked-shut c.loop-byte.invariant step w.if-r-eq0.false _ number (omega arith) _ _ e.answer e.list)
    ]

pub returns-then-not-is_padding : goal.returns-then-not-is_padding
returns-then-not-is_padding c = walked-rest c.loop-byte.invariant c.loop-byte-test.false (sym c.is_padding.ensures ∙ c.if-not-is_padding.true)

pub returns : goal.returns
returns c = walked-padding c.loop-byte.invariant c.loop-byte-test.false (sym c.is_padding.ensures ∙ c.if-not-is_padding.false)
