use mathlib.Core.Path.{◌≡◌, refl, sym, ◌∙◌}
use Prim.Native.Nat.{◌+◌}
use mathlib.Core.Bool.{true, false}
use native.Mathlib.Omega.{arith}
use lib.ListN.{length}
use Rattle.wavelet.proofs.Walking.{less}
use Rattle.wavelet_bitmaps.proofs.Subtrees.{room_own, room-sides, subtree-none, subtree-leaf}
use Rattle.wavelet_bitmaps.proofs.Subtrees.{words-short, partitioned-few, partitioned-zeros, partitioned-ones, words-zero, words-one, subtree-node}
use Rattle.wavelet_bitmaps.proofs.+write_subtree.Goals as goal
use Rattle.wavelet_bitmaps.proofs.+write_subtree.Goals.{then-n-eq0-via-then-n-eq0, then-n-eq0-via-else-n-eq0+then-not-is_node}

pub returns-then-n-eq0-clause-written : goal.returns-then-n-eq0-clause-written
returns-then-n-eq0-clause-written t c =
    elim c.then-n-eq0.branch [
      | then-n-eq0-via-then-n-eq0 w ↦ subtree-none _ _ c.args.v _ _ _ w.if-n-eq0.true
      | then-n-eq0-via-else-n-eq0+then-not-is_node w ↦ subtree-leaf _ _ c.args.v _ _ _ (sym w.is_node.ensures ∙ w.if-not-is_node.true)
    ]

pub partition-zeros-requires-clause-short : goal.partition-zeros-requires-clause-short
partition-zeros-requires-clause-short t c =
    omega (arith, words-short c.args.tree c.args.v _ c.requires.words (sym c.if-not-is_node.ensures))

pub partition-zeros-requires-clause-room : goal.partition-zeros-requires-clause-room
partition-zeros-requires-clause-room t c =
    let short = words-short c.args.tree c.args.v _ c.requires.words (sym c.if-not-is_node.ensures) in
    omega (arith, c.requires.room, room_own c.args.v.depth (length c.args.words.now) short)

pub split_at_mut-zero_words-requires : goal.split_at_mut-zero_words-requires
split_at_mut-zero_words-requires t c = omega (arith, partitioned-few c.args.v.depth _ _ c.partition-zeros.ensures.zeros)

pub write_subtree-mid-requires : goal.write_subtree-mid-requires
write_subtree-mid-requires t c =
    let a = c.args in
    let k = c.partition-zeros.ensures in
    let parts = c.split_at_mut-zero_words.ensures in
    let test = sym c.if-not-is_node.ensures in
    let short = words-short a.tree a.v _ c.requires.words test in
    let both : length c.split_at_mut-zero_words.result.0.now + length c.split_at_mut-zero_words.result.1.now ≡ length a.words.now = omega arith in
    let room = room-sides _ _ a.v _ _ _ _ c.side-zero.ensures refl short both in (
      less _ _ a.v false t c.decreases c.side-zero.ensures (omega (arith, a.tree.order.in_use)) test,
      (
        words-zero _ _ a.v _ test short c.requires.words c.side-zero.ensures (parts.front ∙ partitioned-zeros _ _ _ k.zeros _ k.words),
        (omega arith, (omega (arith, c.requires.room, room), omega arith)),
      ),
    )

pub write_subtree-requires : goal.write_subtree-requires
write_subtree-requires t c =
    let a = c.args in
    let k = c.partition-zeros.ensures in
    let parts = c.split_at_mut-zero_words.ensures in
    let test = sym c.if-not-is_node.ensures in
    let short = words-short a.tree a.v _ c.requires.words test in
    let both : length c.split_at_mut-zero_words.result.0.now + length c.split_at_mut-zero_words.result.1.now ≡ length a.words.now = omega arith in
    let room = room-sides _ _ a.v _ _ _ _ c.side-zero.ensures c.side-one.ensures short both in (
      less _ _ a.v true t c.decreases c.side-one.ensures (omega (arith, a.tree.order.in_use)) test,
      (
        words-one _ _ a.v _ test short c.requires.words c.side-one.ensures (parts.back ∙ partitioned-ones _ _ _ k.zeros _ k.words),
        (omega arith, (omega (arith, c.requires.room, c.write_subtree-mid.ensures.within, room), omega arith)),
      ),
    )

pub returns-clause-within : goal.returns-clause-within
returns-clause-within t c =
    let a = c.args in
    let short = words-short a.tree a.v _ c.requires.words (sym c.if-not-is_node.ensures) in
    let both : length c.split_at_mut-zero_words.result.0.now + length c.split_at_mut-zero_words.result.1.now ≡ length a.words.now = omega arith in
    omega (arith, c.write_subtree-mid.ensures.within, c.write_subtree.ensures.within, room-sides _ _ a.v _ _ _ _ c.side-zero.ensures c.side-one.ensures short both)

pub returns-clause-written : goal.returns-clause-written
returns-clause-written t c =
    let a = c.args in
    let k = c.partition-zeros.ensures in
    let parts = c.split_at_mut-zero_words.ensures in
    let test = sym c.if-not-is_node.ensures in
    let short = words-short a.tree a.v _ c.requires.words test in
    subtree-node _ _ a.v _ test short a.at _ _ _ _ _ _ _ _ _ _ c.side-zero.ensures c.side-one.ensures
    (parts.front ∙ partitioned-zeros _ _ _ k.zeros _ k.words) (parts.back ∙ partitioned-ones _ _ _ k.zeros _ k.words)
    k.bits c.write_subtree-mid.ensures.written c.write_subtree.ensures.written
