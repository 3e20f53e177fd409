-- What is pending after a byte; the checks of the numbers that end in it.
use Rattle.std.specs.Prelude.{Bool, true, false, not, ℕ, ◌+◌, ◌*◌, leb, ltb, Ok}
use Rattle.calls.specs.declared.Refusal.{Refusal}
use Rattle.calls.specs.declared.Refusal.TheVariants.{TooManyCodewords, TooLarge}
use Rattle.calls.specs.Calls.{Outcome, check, and_then}
use Rattle.calls.specs.Limits.{max_count}
use Rattle.table_scan.specs.declared.Pending.{Pending}
use Rattle.byte_table.specs.declared.Rest.{Rest}
use Rattle.byte_table.specs.declared.Row.{Row}

-- What remains of a byte is pending then, and the rows for the next one begin at 256 for each one at its end
abbrev pub after : Rest → Pending
after r = record { len = r.len; value = r.value; rows = 256 * r.ones }

-- Why a codeword is refused whose number fails its check, by its place
abbrev pub fault_at : ℕ → Refusal
fault_at place = elim (leb max_count place) [ true ↦ TooManyCodewords | false ↦ TooLarge place ]

-- The numbers that a byte ends, from a place on: whether the first is legal, and the two after it, which are 0 only where they are not there, so that the limit
-- alone decides
abbrev pub judged : ℕ → Bool → ℕ → ℕ → ℕ → Outcome (Unit {0})
judged place legal second third limit =
    check (fault_at place) (not legal)
    (check (fault_at (place + 1)) (ltb limit second)
    (check (fault_at (place + 2)) (ltb limit third)
    (Ok tt)))

-- How many numbers there are once those of a row that was looked up are stored after `count` others: 4 they are too many
abbrev pub stored : ℕ → Bool → Row → ℕ → Outcome ℕ
stored count legal r limit =
    and_then (judged count legal r.second r.third limit) (λ _. check TooManyCodewords (ltb max_count (count + r.count)) (Ok (count + r.count)))
