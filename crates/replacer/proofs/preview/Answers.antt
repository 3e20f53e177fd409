use mathlib.Core.Path.{sym}
use Rattle.std.proofs.lemmas.Result.{err_from_is_err_and}
use Rattle.replacer.proofs.preview.Goals as goal

pub returns-in_err-x : goal.returns-in_err-x
returns-in_err-x c =
    let p = err_from_is_err_and c.from_residual.result c.from_residual.ensures.1 in
    rw (p.1, p.2, ← c.from.ensures) (sym c.in_err-x.ensures)

pub returns : goal.returns
returns c = rw (c.bytes.ensures, ← c.from.ensures) (sym c.in_ok-x.ensures.0)
