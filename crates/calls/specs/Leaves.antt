-- What a reader's scan answers, and stores in a list of the reader's own, and how a row goes from there to the output.
use Rattle.std.specs.Prelude.{◌≡◌, List, ℕ, ltb, length, take, Ok, Err}
use Rattle.calls.specs.declared.Refusal.TheVariants.{NoRoom}
use Rattle.calls.specs.Calls.{Outcome, answer_results, check, and_then, buffer}

-- How many numbers the row has that is found
abbrev pub counting : Outcome (List ℕ) → Outcome ℕ
counting found = and_then found (λ row. Ok (length row))

-- A list of the reader's own after its scan: where the scan accepts, it begins with the row
abbrev pub Begins : Outcome (List ℕ) → List ℕ → Type 0
Begins (Ok row) list = take (length row) list ≡ row
Begins (Err r) list = Unit {0}

-- What a scan that finds this answers, and leaves in its list
abbrev pub Scanned : Outcome (List ℕ) → Outcome ℕ → List ℕ → Type 0
Scanned found a list = (a ≡ counting found) × Begins found list

-- The row goes from there to the output, if that has room: the answer, and the output before and after
abbrev pub delivered : Outcome ℕ → ℕ → Outcome ℕ
delivered scanned room = and_then scanned (λ n. check NoRoom (ltb room n) (Ok n))

abbrev pub Delivers : Outcome ℕ → List ℕ → List ℕ → Outcome ℕ → List ℕ → Type 0
Delivers scanned list before a after = (a ≡ delivered scanned (length before)) × (after ≡ buffer a (take (answer_results 0 a) list) before)
