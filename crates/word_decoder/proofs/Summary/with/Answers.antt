use mathlib.Core.Path.{refl}
use native.Mathlib.Omega.{arith}
use Rattle.word_decoder.proofs.Told.{summary-more}
use Rattle.word_decoder.proofs.Summary.with.Goals as goal

pub returns-then-count-span : goal.returns-then-count-span
returns-then-count-span c = λ m xs ys is part.
    summary-more m _ _ xs ys _ part c.args.self _ _ is c.counted.ensures (λ h. refl) (λ h. absurd (omega arith))

pub returns-else-count-span : goal.returns-else-count-span
returns-else-count-span c = λ m xs ys is part.
    summary-more m _ _ xs ys _ part c.args.self _ _ is c.counted.ensures (λ h. absurd (omega arith)) (λ h. refl)
