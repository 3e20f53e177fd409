-- Reading bytes by any code (paper 01, "When a call says no": Read). The checks stand in the paper's order.
use Rattle.std.specs.Prelude.{Bool, List, [], ◌∷◌, ℕ, suc, leb, ltb, length, Ok}
use Rattle.calls.specs.declared.Refusal.{Refusal}
use Rattle.calls.specs.declared.Refusal.TheVariants.{TooManyBytes, TooManyCodewords, TooLarge, NoRoom}
use Rattle.calls.specs.Calls.{Outcome, check}
use Rattle.calls.specs.Limits.{max_count}

-- A code, as far as reading goes by it
pub record Code : Type 0 where
  -- how many bytes an encoding has at most
  pub byte_limit : ℕ
  -- the numbers of the codewords of bytes, from the left
  pub numbers : List ℕ → List ℕ
  -- whether the bits or bytes after the last codeword are more than padding, and what that is refused as
  pub unfinished : List ℕ → Bool
  pub fault : Refusal

-- From the left, at each finished codeword: 4 if it is the 4,097th, else 7 if its number is above the limit
unfoldable pub check_finished : {A : Type 0} → ℕ → ℕ → List ℕ → Outcome A → Outcome A
check_finished limit place [] next = next
check_finished limit place (n ∷ ns) next =
    check TooManyCodewords (leb max_count place)
    (check (TooLarge place) (ltb limit n)
    (check_finished limit (suc place) ns next))

-- The numbers that bytes hold: 4 and 7, then what remains
unfoldable pub contents : Code → ℕ → List ℕ → Outcome (List ℕ)
contents c limit s =
    check_finished limit 0 (c.numbers s)
    (check c.fault (c.unfinished s)
    (Ok (c.numbers s)))

-- The row of an encoding, which calls go on with once they have checked what they were asked for: 2, then its contents
unfoldable pub decode : Code → ℕ → List ℕ → Outcome (List ℕ)
decode c limit s = check TooManyBytes (ltb c.byte_limit (length s)) (contents c limit s)

-- A row, or a text, for an output with so much room: 5 the output is shorter; else the count
abbrev pub counted : ℕ → List ℕ → Outcome ℕ
counted room row = check NoRoom (ltb room (length row)) (Ok (length row))
