use Rattle.std.proofs.Common.{◌≡◌, ◌-◌}
use Rattle.std.proofs.lemmas.List.Edits.{sets}
use Rattle.columns.specs.Columns.{leading}
use Rattle.columns.proofs.put.Given as goal

-- with the columns that are left the whole number is put
abbrev pub invariant-loop-i : goal.invariant-loop-i
invariant-loop-i l = sets l.out l.at (leading (l.i - l.at) l.left) ≡ sets l.initial.out l.at (leading (l.last - l.at) l.initial.left)
