use Prim.Native.Nat.{◌-◌}
use lib.ListN.{length}
use Rattle.dense_decoder.proofs.Scanning.{Stored}
use Rattle.dense_decoder.proofs.store_row.Given as goal

abbrev pub invariant-loop-i : goal.invariant-loop-i
invariant-loop-i l = Stored l.fn.stoppers.s l.fn.limit l.codewords.bytes.now l.row l.i l.count

abbrev pub decreases-loop-i : goal.decreases-loop-i
decreases-loop-i l = length l.codewords.bytes.now - l.i
