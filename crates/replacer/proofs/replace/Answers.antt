use mathlib.Core.Path.{sym}
use native.Mathlib.Omega.{arith}
use borrow.Author.Rules.{rules}
use Rattle.std.proofs.Math.Facts.{Fits-lt-pow}
use Rattle.std.proofs.lemmas.Result.{err_from_is_err_and}
use Rattle.replacer.proofs.Replacing.{planned-room, replace-refused, replace-put}
use Rattle.replacer.proofs.replace.Goals as goal

pub returns-in_err-x : goal.returns-in_err-x
returns-in_err-x c =
    let p = err_from_is_err_and c.from_residual.result c.from_residual.ensures.1 in
    rw (p.1, p.2, ← c.from.ensures) (sym c.in_err-x.ensures, replace-refused _ _ _ _ _ _ c.in_err-x.ensures)

pub splice-requires : goal.splice-requires
splice-requires c =
    let e = c.in_ok-x.ensures in
    let r = planned-room _ _ _ _ _ _ e.0 e.1 in
    (omega arith, omega (arith, r.fits, r.used_fits), omega (arith, r.most, r.used_most), r.some, r.in_use, omega (arith, e.1.word.2))

pub returns : goal.returns
returns c =
    let e = c.in_ok-x.ensures in
    rw (c.bytes-bytes.ensures, ← c.from.ensures) (
      sym e.0,
      replace-put _ _ _ _ _ _ e.0 _ (λ i. search rules) (λ i. Fits-lt-pow (c.type_inv.buf i))
          _ _ _ _ (rw c.bytes-bytes.ensures at c.max.ensures) e.1.start e.1.old e.1.word.0 c.splice.ensures,
    )
