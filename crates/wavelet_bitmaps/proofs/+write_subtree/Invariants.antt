use Rattle.std.proofs.Common.{suc, ◌-◌}
use Rattle.wavelet_bitmaps.proofs.+write_subtree.Given as goal

-- How many numbers are left from the cursor's next on: each side of a node begins further on.
abbrev pub decreases-write_subtree : goal.decreases-write_subtree
decreases-write_subtree l = suc l.tree.limit - l.v.next
