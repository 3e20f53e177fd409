use native.Mathlib.Omega.{arith}
use Rattle.wavelet_bitmaps.proofs.Subtrees.{root-words, root-written}
use Rattle.wavelet_bitmaps.proofs.write_bitmaps.Goals as goal

pub write_subtree-requires-clause-words : goal.write_subtree-requires-clause-words
write_subtree-requires-clause-words c =
    let t = c.args.tree in
    root-words _ _ (omega (arith, t.order.in_use)) t.small.0 _ c.root.ensures _ c.requires.row

pub returns-clause-written : goal.returns-clause-written
returns-clause-written c =
    let t = c.args.tree in
    root-written _ _ (omega (arith, t.order.in_use)) t.small.0 _ c.root.ensures _ _ _ _ c.write_subtree.ensures.written
