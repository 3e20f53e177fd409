use mathlib.Core.Path.{refl, sym}
use mathlib.Core.Bool.{true, false}
use native.Mathlib.Omega.{arith}
use Rattle.wavelet.specs.Leaves.{side_of}
use Rattle.wavelet.proofs.Walking.{side-cursor, less, ends-within, end-leaf, end_short, end-cut, end_on, starts-now}
use Rattle.wavelet_ends.proofs.Index.+end_after_end_of_start_of.Goals as goal

-- ## Where a node's bitmaps end, after a side

pub end_after-end_of-requires : goal.end_after-end_of-requires
end_after-end_of-requires t c =
    let a = c.args in
    let l = less _ _ a.v true _ refl c.side-side.ensures (omega (arith, a.self.tree.order.in_use)) c.requires.node in
    (omega (arith, l, c.decreases), (side-cursor _ _ a.v true c.requires.string c.requires.node c.side-side.ensures, c.requires.start))

-- ## Where bitmaps end

pub end_of-returns-then-not-is_node : goal.end_of-returns-then-not-is_node
end_of-returns-then-not-is_node t c = end-leaf _ _ c.args.v _ _ _ c.requires.start (sym c.if-not-is_node.ensures)

pub end_of-returns-then-k-self : goal.end_of-returns-then-k-self
end_of-returns-then-k-self t c = end_short _ _ c.args.v _ _ _ c.requires.start (sym c.if-not-is_node.ensures) (omega arith)

pub end_of-returns-in_err-mid : goal.end_of-returns-in_err-mid
end_of-returns-in_err-mid t c =
    rw c.from_residual.ensures
    (end-cut _ _ c.args.v _ _ _ c.requires.start (sym c.if-not-is_node.ensures) (omega (arith, c.requires.start)) _ c.ones_in-ones.ensures.ones c.in_err-mid.ensures)

pub end_of-end_after-requires : goal.end_of-end_after-requires
end_of-end_after-requires t c =
    let a = c.args in
    let test = sym c.if-not-is_node.ensures in
    let mid = ends-within _ _ (side_of a.self.tree.order.m a.v false) _ _ _ _ (side-cursor _ _ a.v false c.requires.string test refl) c.in_ok-mid.ensures in
    (omega (arith, c.decreases), (c.requires.string, (test, mid)))

pub end_of-returns : goal.end_of-returns
end_of-returns t c =
    end_on _ _ c.args.v _ _ _ c.requires.start (sym c.if-not-is_node.ensures) (omega (arith, c.requires.start)) _ c.ones_in-ones.ensures.ones
    _ c.in_ok-mid.ensures _ c.end_after.ensures

-- ## Where the bitmaps of a side start

pub start_of-returns-then-not-one : goal.start_of-returns-then-not-one
start_of-returns-then-not-one t c = starts-now _ _ c.args.v _ _ _ _ _ c.requires.own c.then-not-one.either

pub start_of-end_of-requires : goal.start_of-end_of-requires
start_of-end_of-requires t c =
    let a = c.args in
    let l = less _ _ a.v false _ refl c.side-zero.ensures (omega (arith, a.self.tree.order.in_use)) c.requires.node in
    (omega (arith, l, c.decreases), (side-cursor _ _ a.v false c.requires.string c.requires.node c.side-zero.ensures, c.requires.own))
