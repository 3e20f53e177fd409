use mathlib.Core.Path.{◌≡◌, ◌∙◌}
use mathlib.Core.List.{[], append-nil}
use Prim.Native.Nat.{ℕ, ◌-◌}
use native.Mathlib.Omega.{arith}
use lib.ListN.{length, take, drop, length-take, drop_of_length-le}
use Rattle.wavelet_bitmaps.proofs.Partitioning.{partition-none, partition-next, partitioned-count, partitioned-words, partitioned-bits}
use Rattle.wavelet_bitmaps.proofs.partition.Goals as goal

pub loop-i-init : goal.loop-i-init
loop-i-init c = partition-none _ _ _ _ _ c.requires.spare

pub loop-i-preserved : goal.loop-i-preserved
loop-i-preserved c = rw (c.set_bit.ensures, c.from-ones.ensures) (partition-next c.loop-i.invariant c.loop-i-test.true _ c.next_bit-one.ensures)

pub returns-clause-zeros : goal.returns-clause-zeros
returns-clause-zeros c = partitioned-count c.loop-i.invariant c.loop-i-test.false

pub returns-clause-words : goal.returns-clause-words
returns-clause-words c =
    let ones = c.loop-i.ones in
    let words = c.loop-i.words in
    let zeros : ℕ = length words - ones in
    let room : ℕ = length words - zeros in
    let none : drop ones (take room (drop zeros words)) ≡ [] =
    drop_of_length-le (take room (drop zeros words)) {i = ones} (omega (arith, length-take room (drop zeros words))) in
    partitioned-words c.loop-i.invariant c.loop-i-test.false _ (c.copy_words.ensures ∙ rw none (append-nil (take ones c.loop-i.spare)))

pub returns-clause-bits : goal.returns-clause-bits
returns-clause-bits c = partitioned-bits c.loop-i.invariant c.loop-i-test.false
