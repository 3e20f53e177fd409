-- What every probe does: it tells the outcome of its call.
use mathlib.Core.Path.{◌≡◌, ap, ◌∙◌}
use mathlib.Core.List.{List}
use Prim.Native.Nat.{ℕ}
use lib.Seq.{sets}
use Rattle.calls.specs.Calls.{Outcome}
use Rattle.answers.specs.declared.Answer.{Answer}
use Rattle.answers.specs.Leaves.{Results, six, values}
use Rattle.probe.specs.Leaves.{told}

-- the answer's outcome is that of the call, however many results that has
pub tells : {A : Type 0} (results : Outcome A → Outcome Results) (before after : List ℕ) (r : Answer) → after ≡ sets before 0 (values r)
    → {a o : Outcome A} → values r ≡ six (results a) → a ≡ o → after ≡ told (results o) before
tells results before after r t e f = t ∙ ap (sets before 0) (e ∙ ap (λ (o : Outcome _). six (results o)) f)
