-- What a probe leaves of its call's answer.
use Rattle.std.specs.Prelude.{List, ℕ}
use Rattle.std.proofs.lemmas.List.Edits.{sets}
use Rattle.calls.specs.Calls.{Outcome}
use Rattle.answers.specs.Leaves.{Results, six}

-- The caller's list afterwards: the six numbers of the answer from its front on, as far as there is room, and what stood after them
abbrev pub told : Outcome Results → List ℕ → List ℕ
told o before = sets before 0 (six o)
