use Rattle.table_scan.proofs.Walking.{Walked}
use Rattle.table_scan.proofs.walk.Given as goal

abbrev pub invariant-loop-byte : goal.invariant-loop-byte
invariant-loop-byte l = Walked l.encoding.limit l.byte-items l.byte-index l.row l.count l.pending
