use Rattle.std.proofs.Common.{arith, sym}
use Rattle.std.proofs.lemmas.Result.{err_from_is_err_and}
use Rattle.calls.specs.declared.Refusal.TheVariants.{BadNumber}
use Rattle.calls.specs.Limits.{max_number}
use Rattle.calls.proofs.Checks.{each-accepted}
use Rattle.dense_encoder.specs.Leaves.{Checked}
use Rattle.dense_encoder.proofs.Writing.{write-count, write-number, write-room, write_done}
use Rattle.dense_encoder.proofs.plan.Goals as goal
use Rattle.dense_encoder.proofs.plan.Goals.{In_ok-check_each}

pub returns-then-row-gt-MAX_COUNT : goal.returns-then-row-gt-MAX_COUNT
returns-then-row-gt-MAX_COUNT c = write-count _ _ _ c.args.stoppers.legal c.if-row-gt-MAX_COUNT.true

pub returns-in_err-check_each : goal.returns-in_err-check_each
returns-in_err-check_each c =
    let p = err_from_is_err_and c.from_residual.result c.from_residual.ensures.1 in
    rw (p.1, p.2) (write-number _ _ _ c.args.stoppers.legal _ (omega arith) c.in_err-check_each.ensures)

-- no number is at fault
passed : (c : In_ok-check_each) → Checked c.args.row.now
passed c = (omega arith, (each-accepted BadNumber max_number 0 _ _ _ (sym c.in_ok-check_each.ensures)).0)

pub size-bytes-requires : goal.size-bytes-requires
size-bytes-requires c = passed c

pub returns-then-room-bytes : goal.returns-then-room-bytes
returns-then-room-bytes c =
    write-room _ _ _ c.args.stoppers.legal (passed (goal.at.returns-then-room-bytes c).In_ok-check_each) _ c.size-bytes.ensures (omega arith)

pub returns : goal.returns
returns c = write_done _ _ _ c.args.stoppers.legal (passed (goal.at.returns c).In_ok-check_each) _ c.size-bytes.ensures (omega arith)
