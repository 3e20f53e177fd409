use mathlib.Core.Path.{◌≡◌, sym}
use Prim.Native.Nat.{min}
use native.Mathlib.Omega.{arith}
use Rattle.wavelet.proofs.Walking.{is-root}
use Rattle.wavelet.proofs.Answering.{index-short, ask-not}
use Rattle.wavelet_walk.proofs.Whole.{walk-not, walk-whole}
use Rattle.wavelet_walk.proofs.walk.Goals as goal

pub descend-requires-clause-string : goal.descend-requires-clause-string
descend-requires-clause-string c =
    let t = c.in_ok-index.index.tree in
    is-root _ _ (omega (arith, t.order.in_use)) t.small.0 c.root.ensures

pub returns-in_default : goal.returns-in_default
returns-in_default c next =
    let i = c.in_ok-index.ensures in
    let t = c.in_ok-tree.ensures in
    ask-not t.checked _ next (index-short t.checked _ c.root.ensures (rw (i.0, t.tree.0, t.tree.1, i.1) at c.in_default.ensures))

pub returns-then-not-is_exact : goal.returns-then-not-is_exact
returns-then-not-is_exact c =
    let a = c.args in
    let i = c.in_ok-index.ensures in
    let t = c.in_ok-tree.ensures in
    let place : c.min.result ≡ min a.i a.len = omega arith in
    walk-not t.checked _ c.root.ensures a.question _ a.i a.n c.in-Some.found (rw (i.0, t.tree.0, t.tree.1, i.1, place) at c.in-Some.ensures)
    (rw i.1 at (sym c.if-not-is_exact.ensures))

pub returns : goal.returns
returns c =
    let a = c.args in
    let i = c.in_ok-index.ensures in
    let t = c.in_ok-tree.ensures in
    let place : c.min.result ≡ min a.i a.len = omega arith in
    walk-whole t.checked _ c.root.ensures a.question _ a.i a.n c.in-Some.found (rw (i.0, t.tree.0, t.tree.1, i.1, place) at c.in-Some.ensures)
    (rw i.1 at (sym c.if-not-is_exact.ensures)) (rw (t.tree.0, t.tree.1, c.from.ensures) at c.target_codeword-x.ensures)
