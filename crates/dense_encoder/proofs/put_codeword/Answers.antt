use Rattle.std.proofs.Common.{arith, ℕ, ◌≤◌, length, length-set}
use Rattle.dense.specs.Limits.{continuers}
use Rattle.dense_encoder.proofs.Sizes.{codeword-some}
use Rattle.dense_encoder.proofs.Putting.{putting-start, putting-room, putting-more, putting-end}
use Rattle.dense_encoder.proofs.put_codeword.Goals as goal
use Rattle.dense_encoder.proofs.put_codeword.Goals.{Start}

-- there is room for a byte
some : (c : Start) → 1 ≤ length c.args.out.now
some c = omega (arith, codeword-some c.args.stoppers.s (continuers c.args.stoppers.s) c.args.n)

pub overflow_sub-at : goal.overflow_sub-at
overflow_sub-at c = some (goal.at.overflow_sub-at c).Start

pub bounds-out-at : goal.bounds-out-at
bounds-out-at c = omega (arith, some (goal.at.bounds-out-at c).Start)

pub loop-y-init : goal.loop-y-init
loop-y-init c = putting-start _ _ _ _ _ _ _ (some (goal.at.loop-y-init c).Start) (omega arith) c.s-s.ensures c.divide-y.ensures

pub overflow_sub-at-in-loop-y : goal.overflow_sub-at-in-loop-y
overflow_sub-at-in-loop-y c = putting-room c.loop-y.invariant c.loop-y-test.true c.requires.1

pub bounds-out-at-in-loop-y : goal.bounds-out-at-in-loop-y
bounds-out-at-in-loop-y c = omega (arith, putting-room c.loop-y.invariant c.loop-y-test.true c.requires.1, length-set {A = ℕ})

pub loop-y-preserved : goal.loop-y-preserved
loop-y-preserved c =
    putting-more c.loop-y.invariant _ _ c.loop-y-test.true c.requires.1 (omega arith) c.s-s.ensures c.continuers-c.ensures c.divide-before.ensures

pub returns : goal.returns
returns c = putting-end c.loop-y.invariant (omega arith)
