use Rattle.std.proofs.Common.{arith, ◌≡◌, ℕ, ◌≤◌, List, length, take, replicate, sym}
use Rattle.std.specs.Prelude.{Ok}
use Rattle.std.proofs.Math.Facts.{Fits-lt-pow}
use Rattle.std.proofs.lemmas.Result.{err_from_is_err_and}
use lib.Seq.{sets, length-take-le}
use Rattle.bits.specs.Bits.{unpack, byte_count}
use Rattle.calls.proofs.Checks.{positive}
use Rattle.calls.specs.Limits.{Legal}
use Rattle.wavelet.specs.Bitmaps.{bitmaps}
use Rattle.wavelet.specs.Questions.{BuildPromise}
use Rattle.wavelet.specs.Leaves.{max_index_bytes}
use Rattle.wavelet_bitmaps.specs.Leaves.{AllAligned}
use Rattle.wavelet_build.proofs.Filling.{filled_is}
use Rattle.wavelet_build.proofs.Building.{build-refused, build-number, build-room, build-done}
use Rattle.wavelet_build.proofs.build.Goals as goal
use Rattle.wavelet_build.proofs.build.Goals.{In_ok-numbers, After-write_bitmaps-bits}

-- the numbers are legal, and the words have their codewords
filled : (c : In_ok-numbers)
    → let row = c.args.row.now in
    (c.in_ok-numbers.numbers ≡ length row) × Legal c.in_ok-tree.tree.limit row
    × AllAligned c.in_ok-tree.tree.order.m row (take c.in_ok-numbers.numbers c.fill.new.words)
filled c = filled_is _ _ _ _ _ c.in_ok-numbers.ensures

legal : (c : In_ok-numbers) → Legal c.args.alphabet c.args.row.now
legal c = rw (← c.in_ok-tree.ensures.tree.1) (filled c).1

-- the row fits the words
within : (c : In_ok-numbers) → c.in_ok-numbers.numbers ≤ length c.fill.new.words
within c = omega (arith, (filled c).0, c.in_ok-tree.ensures.checked.count, c.fill.auto.words)

-- the bitmaps are written
built : (c : After-write_bitmaps-bits)
    → let a = c.args in
    (c.write_bitmaps-bits.result ≡ length (bitmaps a.order a.alphabet a.row.now))
    × (unpack c.write_bitmaps-bits.new.out ≡ sets (unpack (replicate max_index_bytes 0)) 0 (bitmaps a.order a.alphabet a.row.now))
built c =
    let d = filled (goal.at.After-write_bitmaps-bits c).In_ok-numbers in
    rw (← c.in_ok-tree.ensures.tree.0, ← c.in_ok-tree.ensures.tree.1) (c.write_bitmaps-bits.ensures.written c.args.row.now (positive _ _ d.1) d.2)

pub returns-in_err-tree : goal.returns-in_err-tree
returns-in_err-tree c =
    let p = err_from_is_err_and c.from_residual.result c.from_residual.ensures.1 in
    rw (p.1, p.2) (build-refused _ _ _ _ _ c.in_err-tree.ensures.checked)

pub returns-in_err-numbers : goal.returns-in_err-numbers
returns-in_err-numbers c =
    let p = err_from_is_err_and c.from_residual-in_err-numbers.result c.from_residual-in_err-numbers.ensures.1 in
    let t = c.in_ok-tree.ensures in
    rw (p.1, p.2) (build-number _ _ _ _ t.checked _ (rw (← t.tree.1) c.in_err-numbers.ensures.0))

pub slice_bounds-words-end : goal.slice_bounds-words-end
slice_bounds-words-end c = within c

pub slice_bounds-write_bitmaps-end : goal.slice_bounds-write_bitmaps-end
slice_bounds-write_bitmaps-end c = sym (length-take-le _ _ (within (goal.at.slice_bounds-write_bitmaps-end c).In_ok-numbers))

pub write_bitmaps-bits-requires-clause-row : goal.write_bitmaps-bits-requires-clause-row
write_bitmaps-bits-requires-clause-row c =
    let d = filled (goal.at.write_bitmaps-bits-requires-clause-row c).In_ok-numbers in
    (c.args.row.now, positive _ _ d.1, d.2)

pub returns-then-out-count : goal.returns-then-out-count
returns-then-out-count c =
    let e = goal.at.returns-then-out-count c in
    build-room _ _ _ _ c.in_ok-tree.ensures.checked (legal e.In_ok-numbers) c.write_bitmaps-bits.result (built e.After-write_bitmaps-bits).0 (omega arith)

-- the answer is how many bits there are
as_told : (m N : ℕ) (row before after : List ℕ) (x bits : ℕ) → x ≡ bits → BuildPromise m N row before (Ok bits) after → BuildPromise m N row before (Ok x) after
as_told m N row before after x bits e p = rw e p

pub returns : goal.returns
returns c =
    let e = goal.at.returns c in
    let b = built e.After-write_bitmaps-bits in
    let n : c.div_ceil-count.result ≡ byte_count c.write_bitmaps-bits.result = omega arith in
    as_told _ _ _ _ _ _ _ (omega arith)
    (build-done _ _ _ _ c.in_ok-tree.ensures.checked (legal e.In_ok-numbers) c.write_bitmaps-bits.result b.0 max_index_bytes c.write_bitmaps-bits.new.out _
    c.write_bitmaps-bits.ensures.within b.1 (omega arith) (rw n at c.copy.ensures) (λ i. Fits-lt-pow (c.type_inv.out i)))
