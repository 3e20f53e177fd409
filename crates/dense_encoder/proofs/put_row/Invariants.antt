use Rattle.dense.specs.Limits.{continuers}
use Rattle.dense_encoder.proofs.Putting.{Behind}
use Rattle.dense_encoder.proofs.put_row.Given as goal

abbrev pub invariant-loop-n : goal.invariant-loop-n
invariant-loop-n l = Behind l.stoppers.s (continuers l.stoppers.s) l.row l.fn.out l.out l.at l.n-iterator.iter.rest.now
