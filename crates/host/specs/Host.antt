-- What the loom's host gets (paper 01, "The byte reader").
use Rattle.std.specs.Prelude.{true, false, ℕ, ◌+◌, ◌*◌, eqb, Ok, Err}
use Rattle.calls.specs.Refusals.{reason}
use Rattle.calls.specs.Calls.{Outcome}

-- One 64-bit number: the answer number plus 32 times the count or total, or after a 7 plus 32 times the place
abbrev pub host_number : Outcome ℕ → ℕ
host_number (Ok x) = 32 * x
host_number (Err r) = elim (eqb (reason r).0 7) [ true ↦ 7 + 32 * (reason r).1 | false ↦ (reason r).0 ]
