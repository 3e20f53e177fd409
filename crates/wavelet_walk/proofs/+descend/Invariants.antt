use Prim.Native.Nat.{suc, ◌-◌}
use Rattle.wavelet_walk.proofs.+descend.Given as goal

-- a side has a larger next number
abbrev pub decreases-descend : goal.decreases-descend
decreases-descend l = suc l.index.tree.limit - l.v.next
