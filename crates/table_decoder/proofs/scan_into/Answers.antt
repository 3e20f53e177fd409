use mathlib.Core.Path.{refl}
use Rattle.std.proofs.lemmas.Result.{err_from_is_err_and}
use Rattle.calls.proofs.Decoding.{decode-long, decode-contents}
use Rattle.reading.specs.Reading.{fibonacci}
use Rattle.table_decoder.proofs.scan_into.Goals as goal

pub returns-in_err-new : goal.returns-in_err-new
returns-in_err-new c =
    let p = err_from_is_err_and c.from_residual.result c.from_residual.ensures.1 in
    let e = c.in_err-new.ensures in
    rw (p.1, p.2, e.0, decode-long (fibonacci 3) c.args.limit c.args.s.now e.1) (refl, tt)

pub returns : goal.returns
returns c =
    let encoding = c.in_ok-new.field-0 in
    let e = c.in_ok-new.ensures in
    rw (← e.1, ← e.2, decode-contents (fibonacci 3) encoding.limit encoding.bytes.now encoding.short) c.walk.ensures
