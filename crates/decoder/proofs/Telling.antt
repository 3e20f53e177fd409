-- What goes on after a scan that tells something of the row of an encoding.
use mathlib.Core.Path.{◌≡◌, sym}
use mathlib.Core.List.{List}
use Prim.Native.Nat.{ℕ}
use Rattle.std.specs.Prelude.{Ok, Err}
use Rattle.calls.specs.Calls.{Outcome, and_then}
use Rattle.calls.proofs.Checks.{not-both, accepted-one}

-- what is answered of all rows of which so much is told is answered of the row that is read
pub told_next : {A B : Type 0} (d : Outcome (List ℕ)) (g : List ℕ → A) (told : A) (next : List ℕ → Outcome B) (answer : Outcome B)
    → Ok told ≡ and_then d (λ row. Ok (g row)) → ((row : List ℕ) → told ≡ g row → answer ≡ next row) → answer ≡ and_then d next
told_next (Ok row) g told next answer e h = h row (accepted-one e)
told_next (Err r) g told next answer e h = absurd (not-both (sym e))
