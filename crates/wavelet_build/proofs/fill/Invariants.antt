use mathlib.Core.Path.{◌≡◌}
use lib.ListN.{length}
use Rattle.wavelet_build.proofs.Filling.{Filling}
use Rattle.wavelet_build.proofs.fill.Given as goal

abbrev pub invariant-loop-i : goal.invariant-loop-i
invariant-loop-i l = (length l.words ≡ length l.initial.words) × Filling l.tree.order.m l.tree.limit l.row l.i l.words
