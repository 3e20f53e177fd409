use mathlib.Core.Path.{sym}
use Prim.Native.Nat.{◌+◌, ◌*◌, ◌≤◌}
use native.Mathlib.Omega.{arith}
use lib.ListN.{length}
use Rattle.bits.specs.Bits.{unpack}
use Rattle.bits.proofs.Bytes.{unpack-length}
use Rattle.wavelet.proofs.Walking.{node-shallow, side-cursor, less, ends-within, starts-within}
use Rattle.wavelet_walk.specs.Leaves.{turn}
use Rattle.wavelet_walk.proofs.Questions.{view-side}
use Rattle.wavelet_walk.proofs.Descending.{find-leaf, none-before, none-there, none-after, find-done}
use Rattle.wavelet_walk.proofs.+descend.Goals as goal

pub returns-then-not-is_node : goal.returns-then-not-is_node
returns-then-not-is_node t c =
    let a = c.args in
    find-leaf _ _ a.v _ _ _ a.question a.x a.i c.requires.start c.requires.view (sym c.if-not-is_node.ensures) _ c.at_leaf-result.ensures

pub takes_one-one-requires-clause-depth : goal.takes_one-one-requires-clause-depth
takes_one-one-requires-clause-depth t c =
    let o = c.args.index.tree in
    omega (arith, node-shallow _ _ c.args.v o.order.in_use o.small.1 c.requires.string (sym c.if-not-is_node.ensures))

-- ## Past the bytes

pub returns-in_err-from : goal.returns-in_err-from
returns-in_err-from t c =
    let a = c.args in
    rw c.from_residual.ensures
    (none-before _ _ a.v _ _ _ a.question a.x a.i c.requires.start (sym c.if-not-is_node.ensures) (omega (arith, c.requires.start)) _ c.ones_in-ones.ensures.ones
    c.takes_one-one.result c.in_err-from.ensures)

pub returns-in_err-found : goal.returns-in_err-found
returns-in_err-found t c =
    let a = c.args in
    rw c.from_residual-in_err-found.ensures
    (none-there _ _ a.v _ _ _ a.question a.x a.i c.requires.start (sym c.if-not-is_node.ensures) (omega (arith, c.requires.start)) _ c.ones_in-ones.ensures.ones
    _ _ c.in_ok-from.ensures (rw (c.side-side.ensures, c.count_on-many.ensures) at c.in_err-found.ensures))

pub returns-in_err-end : goal.returns-in_err-end
returns-in_err-end t c =
    let a = c.args in
    rw c.from_residual-in_err-end.ensures
    (none-after _ _ a.v _ _ _ a.question a.x a.i c.requires.start (sym c.if-not-is_node.ensures) (omega (arith, c.requires.start)) _ c.ones_in-ones.ensures.ones
    _ _ c.in_ok-from.ensures _ (rw (c.side-side.ensures, c.count_on-many.ensures) at c.in_ok-found.ensures.0) c.in_err-end.ensures)

-- ## On a side

pub descend-requires : goal.descend-requires
descend-requires t c =
    let a = c.args in
    let one = c.takes_one-one.result in
    let test = sym c.if-not-is_node.ensures in
    let fits : a.at + a.k ≤ 8 * length a.index.bytes.now = omega (arith, c.requires.start) in
    let view = view-side a.question a.k (unpack a.index.bytes.now) a.at _ (omega (arith, unpack-length a.index.bytes.now)) c.ones_in-ones.ensures.ones a.i c.requires.view one in (
      less _ _ a.v one _ c.decreases c.side-side.ensures (omega (arith, a.index.tree.order.in_use)) test,
      (
        side-cursor _ _ a.v one c.requires.string test c.side-side.ensures,
        (starts-within _ _ a.v _ _ _ _ one _ c.requires.string test fits c.in_ok-from.ensures, rw (c.onward-j.ensures, c.count_on-many.ensures) view),
      ),
    )

pub end_after-requires-clause-start : goal.end_after-requires-clause-start
end_after-requires-clause-start t c =
    let a = c.args in
    let there = side-cursor _ _ a.v c.takes_one-one.result c.requires.string (sym c.if-not-is_node.ensures) c.side-side.ensures in
    ends-within _ _ c.side-side.result _ _ _ _ there c.in_ok-found.ensures.0

pub returns : goal.returns
returns t c =
    let a = c.args in
    let o = a.index.tree in
    let test = sym c.if-not-is_node.ensures in
    let short = node-shallow _ _ a.v o.order.in_use o.small.1 c.requires.string test in
    find-done _ _ a.v _ _ _ a.question a.x a.i c.requires.start test (omega (arith, c.requires.start)) _ c.ones_in-ones.ensures.ones
    _ _ c.in_ok-from.ensures (omega (arith, short)) c.requires.view
    (sym {b = turn a.question a.x a.index.bytes.now a.at a.i a.v.depth} c.takes_one-one.ensures)
    _ (rw (c.side-side.ensures, c.count_on-many.ensures, c.onward-j.ensures) at c.in_ok-found.ensures) _ c.in_ok-end.ensures _ c.back-result.ensures
