use mathlib.Core.Path.{◌≡◌}
use mathlib.Core.List.{◌++◌}
use Prim.Native.Nat.{◌*◌}
use lib.ListN.{take, drop}
use Rattle.table_decoder.specs.Reading.{row_bytes}
use Rattle.table_decoder.proofs.put_row.Given as goal

abbrev pub invariant-loop-i : goal.invariant-loop-i
invariant-loop-i l = l.out ≡ row_bytes (take l.i l.row) ++ drop (4 * l.i) l.initial.out
