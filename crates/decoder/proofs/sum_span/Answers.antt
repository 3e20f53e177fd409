use mathlib.Core.Path.{refl}
use native.Mathlib.Omega.{arith}
use Rattle.std.proofs.lemmas.Result.{err_from_is_err_and}
use Rattle.bits.proofs.Bytes.{unpack-length}
use Rattle.calls.proofs.Decoding.{decode-long, decode-contents}
use Rattle.reading.specs.Reading.{fibonacci}
use Rattle.decoder.proofs.Steps.{room-told, told-more}
use Rattle.decoder.proofs.sum_span.Goals as goal

pub returns-in_err-encoding : goal.returns-in_err-encoding
returns-in_err-encoding c =
    let p = err_from_is_err_and c.from_residual.result c.from_residual.ensures.1 in
    let e = c.in_err-encoding.ensures in
    rw (p.1, p.2, e.0, decode-long (fibonacci c.args.order.m) c.args.limit c.args.s.now e.1) refl

pub next_number-requires : goal.next_number-requires
next_number-requires c = omega (arith, c.loop-n.invariant.decoded.taken.within, unpack-length c.in_ok-encoding.encoding.bytes.now)

pub returns-in_err-n : goal.returns-in_err-n
returns-in_err-n c =
    let p = err_from_is_err_and c.from_residual-in_err-n.result c.from_residual-in_err-n.ensures.1 in
    let x = c.in_ok-encoding in
    let e = x.ensures in
    let read = decode-contents (fibonacci x.encoding.order.m) x.encoding.limit x.encoding.bytes.now x.encoding.short in
    let step = c.in_err-n.ensures _ c.loop-n.invariant.decoded in
    rw (p.1, p.2, ← e.0, ← e.1, ← e.2, read, step) refl

pub with-told-requires : goal.with-told-requires
with-told-requires c =
    let v = c.loop-n.invariant in
    let step = rw c.in-Some.is at (c.in_ok-n.ensures _ v.decoded) in
    room-told v _ _ step (omega (arith, c.in_ok-encoding.ensures.2))

pub loop-n-smaller : goal.loop-n-smaller
loop-n-smaller c =
    let v = c.loop-n.invariant in
    let step = rw c.in-Some.is at (c.in_ok-n.ensures _ v.decoded) in
    omega (arith, told-more v _ _ step _ c.with-told.ensures, step.0)

pub loop-n-preserved : goal.loop-n-preserved
loop-n-preserved c =
    let v = c.loop-n.invariant in
    let step = rw c.in-Some.is at (c.in_ok-n.ensures _ v.decoded) in
    (told-more v _ _ step _ c.with-told.ensures).0

pub returns : goal.returns
returns c =
    let x = c.in_ok-encoding in
    let e = x.ensures in
    let read = decode-contents (fibonacci x.encoding.order.m) x.encoding.limit x.encoding.bytes.now x.encoding.short in
    let v = c.loop-n.invariant in
    let step = rw c.in_default.is at (c.in_ok-n.ensures _ v.decoded) in
    rw (← e.0, ← e.1, ← e.2, read, step, ← v.told) refl
