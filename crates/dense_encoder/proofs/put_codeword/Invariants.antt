use lib.ListN.{length}
use Rattle.dense.specs.Limits.{continuers}
use Rattle.dense_encoder.proofs.Putting.{Putting}
use Rattle.dense_encoder.proofs.put_codeword.Given as goal

abbrev pub invariant-loop-y : goal.invariant-loop-y
invariant-loop-y l = Putting l.fn.stoppers.s (continuers l.fn.stoppers.s) l.n l.fn.out (length l.fn.out) l.out l.at l.y

abbrev pub decreases-loop-y : goal.decreases-loop-y
decreases-loop-y l = l.y
