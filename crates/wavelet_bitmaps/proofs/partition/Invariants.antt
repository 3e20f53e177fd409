use Rattle.bits.specs.Bits.{unpack}
use Rattle.wavelet_bitmaps.specs.Leaves.{bit_after}
use Rattle.wavelet_bitmaps.proofs.Partitioning.{Partition}
use Rattle.wavelet_bitmaps.proofs.partition.Given as goal

abbrev pub invariant-loop-i : goal.invariant-loop-i
invariant-loop-i l =
    Partition (bit_after l.depth) l.initial.words l.words l.spare l.ones l.i l.at (unpack l.initial.out) (unpack l.out)
