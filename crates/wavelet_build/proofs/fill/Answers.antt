use mathlib.Core.Path.{sym, ◌∙◌}
use native.Mathlib.Omega.{arith}
use lib.ListN.{length-set}
use Rattle.calls.proofs.Checks.{number_is, is-number}
use Rattle.wavelet_build.proofs.Filling.{filling_more}
use Rattle.wavelet_build.proofs.fill.Goals as goal

pub aligned_codeword-requires : goal.aligned_codeword-requires
aligned_codeword-requires c =
    let n = number_is _ _ (sym c.is_number.ensures ∙ c.if-not-is_number.false) in
    (n.0, omega (arith, n.1, c.args.tree.small))

pub loop-i-preserved : goal.loop-i-preserved
loop-i-preserved c =
    let l = c.loop-i in
    let n = number_is _ _ (sym c.is_number.ensures ∙ c.if-not-is_number.false) in (
      simp length-set l.invariant.0,
      filling_more _ _ _ _ _ l.invariant.1 c.from-n.result (omega arith) c.from-n.ensures c.aligned_codeword.result (omega arith)
          (is-number _ _ n.0 (omega (arith, n.1))) c.aligned_codeword.ensures,
    )
