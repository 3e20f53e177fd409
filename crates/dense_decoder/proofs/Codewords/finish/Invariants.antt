use Prim.Native.Nat.{◌-◌, ◌≤◌, ◌<◌}
use lib.ListN.{length}
use Rattle.calls.specs.Limits.{max_number}
use Rattle.dense_decoder.proofs.Front.{Passed}
use Rattle.dense_decoder.proofs.Codewords.finish.Given as goal

abbrev pub invariant-loop-b : goal.invariant-loop-b
invariant-loop-b l = record { inside : l.i < length l.self.bytes.now; small : l.string ≤ max_number; passed : Passed l.self.stoppers.s l.self.bytes.now l.from l.y l.i l.string }

abbrev pub decreases-loop-b : goal.decreases-loop-b
decreases-loop-b l = length l.self.bytes.now - l.i
