use mathlib.Core.Path.{sym}
use Prim.Native.Nat.{ℕ, ◌+◌, ◌*◌, ◌≤◌}
use native.Mathlib.Omega.{arith}
use lib.ListN.{length, length-take, length-drop}
use Rattle.std.proofs.Math.Facts.{Fits-lt-pow}
use Rattle.std.proofs.lemmas.Result.{err_from_is_err_and}
use Rattle.bits.specs.Bits.{word_bits}
use Rattle.bits.proofs.Put.{put-part}
use Rattle.headers.proofs.Headers.{capacity-most}
use Rattle.appender.proofs.Appending.{append-is, append-order, append-refused, append-put}
use Rattle.appender.proofs.append.Goals as goal
use Rattle.appender.proofs.append.Goals.{In_ok-word}

pub returns-in_err-order : goal.returns-in_err-order
returns-in_err-order c =
    let p = err_from_is_err_and c.from_residual.result c.from_residual.ensures.1 in
    let e = append-order _ _ _ _ c.in_err-order.ensures.1 in
    rw (p.1, p.2, c.in_err-order.ensures.0) (sym e, append-refused _ _ _ _ _ e)

pub returns-in_err-word : goal.returns-in_err-word
returns-in_err-word c =
    let p = err_from_is_err_and c.from_residual-in_err-word.result c.from_residual-in_err-word.ensures.1 in
    rw (p.1, p.2, ← c.in_ok-order.ensures.0, ← c.from.ensures) (sym c.in_err-word.ensures, append-refused _ _ _ _ _ c.in_err-word.ensures)

-- there is room for the codeword
room : (c : In_ok-word) → c.args.header.bits + c.in_ok-word.word.len ≤ 8 * length c.args.buf.now
room c =
    let x = append-is c.in_ok-order.order.m (length c.args.buf.now) c.args.header c.from.result _ c.in_ok-word.ensures.0 in
    omega (arith, x.0.fits, capacity-most (length c.args.buf.now), c.in_ok-word.ensures.1.1)

pub slice_bounds-put_word-count : goal.slice_bounds-put_word-count
slice_bounds-put_word-count c = omega (arith, room (goal.at.slice_bounds-put_word-count c).In_ok-word)

pub slice_bounds-put_word-start : goal.slice_bounds-put_word-start
slice_bounds-put_word-start c = omega (arith, room (goal.at.slice_bounds-put_word-start c).In_ok-word)

pub put_word-requires : goal.put_word-requires
put_word-requires c = (omega arith, omega (arith, room (goal.at.put_word-requires c).In_ok-word, length-take {A = ℕ}, length-drop {A = ℕ}))

pub returns : goal.returns
returns c =
    let x = (goal.at.returns c).In_ok-word in
    let buf = c.args.buf.now in
    let w = c.in_ok-word.word in
    let e = c.in_ok-word.ensures in
    rw (← c.in_ok-order.ensures.0, ← c.from.ensures, c.bytes.ensures) (
      sym e.0,
      append-put _ buf c.args.header _ _ e.0 _ (λ i. Fits-lt-pow (x.type_inv.buf i)) (λ i. Fits-lt-pow (c.type_inv.buf i))
          (rw (← e.1.0) (put-part buf c.put_word.new.s c.args.header.bits (word_bits w.len w.bits) (omega (arith, room x)) c.put_word.ensures)),
    )
