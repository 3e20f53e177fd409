use mathlib.Core.Path.{refl}
use native.Mathlib.Omega.{arith}
use Rattle.std.proofs.Common.{◌≡◌, rules}
use Rattle.lists.proofs.Lists.{copy_more}
use Rattle.wavelet_bitmaps.proofs.copy_words.Goals as goal

pub loop-i-preserved : goal.loop-i-preserved
loop-i-preserved c =
    let l = c.loop-i in
    let a = c.args in
    record { long = search rules; copied = rw l.invariant.copied (copy_more a.words.now a.to.now l.i _ 0 (omega arith) (omega arith) refl) }

pub returns : goal.returns
returns c =
    let l = c.loop-i in
    let end : l.i ≡ c.args.n = omega arith in
    rw (← end) l.invariant.copied
