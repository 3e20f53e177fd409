use Prim.Native.Nat.{suc, ◌+◌, ◌-◌, ◌*◌}
use Rattle.wavelet_ends.proofs.Index.+end_after_end_of_start_of.Given as goal

-- a side has a larger next number, and a node's own bitmaps come before its sides'
abbrev pub decreases-end_after : goal.decreases-end_after
decreases-end_after l = 2 * (suc l.self.tree.limit - l.v.next)

abbrev pub decreases-end_of : goal.decreases-end_of
decreases-end_of l = 1 + 2 * (suc l.self.tree.limit - l.v.next)

abbrev pub decreases-start_of : goal.decreases-start_of
decreases-start_of l = 2 * (suc l.self.tree.limit - l.v.next)
