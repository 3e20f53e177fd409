use mathlib.Core.Path.{refl, ◌∙◌}
use native.Mathlib.Omega.{arith}
use lib.ListN.{length-set}
use Rattle.std.proofs.lemmas.Result.{err_from_is_err_and}
use Rattle.bits.proofs.Bytes.{unpack-length}
use Rattle.calls.proofs.Decoding.{decode-long, decode-contents}
use Rattle.reading.specs.Reading.{fibonacci}
use Rattle.word_decoder.proofs.Taking.{taken-number}
use Rattle.decoder.proofs.Steps.{room-more, stored-more}
use Rattle.decoder.proofs.store_row.Goals as goal

pub returns-in_err-encoding : goal.returns-in_err-encoding
returns-in_err-encoding c =
    let p = err_from_is_err_and c.from_residual.result c.from_residual.ensures.1 in
    let e = c.in_err-encoding.ensures in
    rw (p.1, p.2, e.0, decode-long (fibonacci c.args.order.m) c.args.limit c.args.s.now e.1) (refl, tt)

pub next_number-requires : goal.next_number-requires
next_number-requires c = omega (arith, c.loop-n.invariant.decoded.taken.within, unpack-length c.in_ok-encoding.encoding.bytes.now)

pub returns-in_err-n : goal.returns-in_err-n
returns-in_err-n c =
    let p = err_from_is_err_and c.from_residual-in_err-n.result c.from_residual-in_err-n.ensures.1 in
    let x = c.in_ok-encoding in
    let e = x.ensures in
    let read = decode-contents (fibonacci x.encoding.order.m) x.encoding.limit x.encoding.bytes.now x.encoding.short in
    let step = c.in_err-n.ensures _ c.loop-n.invariant.decoded in
    rw (p.1, p.2, ← e.0, ← e.1, ← e.2, read, step) (refl, tt)

pub overflow_cast-row : goal.overflow_cast-row
overflow_cast-row c =
    let step = rw c.in-Some.is at (c.in_ok-n.ensures _ c.loop-n.invariant.decoded) in
    omega (arith, taken-number step.1, c.in_ok-encoding.ensures.2)

pub bounds-row-at : goal.bounds-row-at
bounds-row-at c =
    let v = c.loop-n.invariant in
    let step = rw c.in-Some.is at (c.in_ok-n.ensures _ v.decoded) in
    room-more _ _ c.in_ok-encoding.encoding.order.in_use v.decoded _ _ step (rw (v.long, c.in_ok-encoding.ensures.1) c.requires)

pub loop-n-preserved : goal.loop-n-preserved
loop-n-preserved c =
    let v = c.loop-n.invariant in
    let step = rw c.in-Some.is at (c.in_ok-n.ensures _ v.decoded) in
    record {
      decoded = stored-more _ _ c.in_ok-encoding.encoding.order.in_use v.decoded _ _ step (rw (v.long, c.in_ok-encoding.ensures.1) c.requires);
      long = length-set c.loop-n.row c.loop-n.at.count c.in-Some.n ∙ v.long;
    }

pub returns : goal.returns
returns c =
    let x = c.in_ok-encoding in
    let e = x.ensures in
    let read = decode-contents (fibonacci x.encoding.order.m) x.encoding.limit x.encoding.bytes.now x.encoding.short in
    let step = rw c.in_default.is at (c.in_ok-n.ensures _ c.loop-n.invariant.decoded) in
    rw (← e.0, ← e.1, ← e.2, read, step, c.loop-n.invariant.decoded.many) (refl, refl)
