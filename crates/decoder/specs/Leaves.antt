-- How far a step through an encoding leads.
use Rattle.std.specs.Prelude.{◌≡◌, List, [], ◌∷◌, ℕ, ◌<◌, Option, None, Some, Ok, Err}
use Rattle.bits.specs.Bits.{unpack}
use Rattle.calls.specs.Calls.{Outcome}
use Rattle.calls.specs.Limits.{max_count}
use Rattle.calls.specs.Reading.{contents}
use Rattle.reading.specs.Reading.{fibonacci}
use Rattle.word_decoder.specs.Leaves.{Taken, DecodedPrefix}

-- Where a step leads from the `count` numbers of a row, which end at a bit: to another number and the bit after its codeword, or to the end of the row, or the
-- bytes are refused
abbrev pub Stepped : ℕ → ℕ → List ℕ → ℕ → ℕ → List ℕ → Outcome (Option (ℕ × ℕ)) → Type 0
Stepped m limit s bit count row (Ok (Some x)) = (count < max_count) × Taken m limit (unpack s) bit x.1 (x.0 ∷ [])
Stepped m limit s bit count row (Ok None) = contents (fibonacci m) limit s ≡ Ok row
Stepped m limit s bit count row (Err r) = contents (fibonacci m) limit s ≡ Err r

abbrev pub Leads : ℕ → ℕ → List ℕ → ℕ → ℕ → Outcome (Option (ℕ × ℕ)) → Type 0
Leads m limit s bit count r = (row : List ℕ) → DecodedPrefix m limit (unpack s) bit count row → Stepped m limit s bit count row r
