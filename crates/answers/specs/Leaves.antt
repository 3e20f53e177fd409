-- What a call answers (paper 01, "When a call says no") as six numbers.
use Rattle.std.specs.Prelude.{List, [], ◌∷◌, ℕ, Ok}
use Rattle.calls.specs.Calls.{Outcome, and_then, answer_number, answer_place, answer_results}
use Rattle.headers.specs.declared.Header.{Header}
use Rattle.answers.specs.declared.Answer.{Answer}

-- Four results, of which those that a call does not have are zeros
abbrev pub Results : Type 0
Results = ℕ × ℕ × ℕ × ℕ

-- The answer number, the place, and the results, which are zeros after a refusal
abbrev pub six : Outcome Results → List ℕ
six o =
    let results = answer_results (0, 0, 0, 0) o in
    answer_number o ∷ answer_place o ∷ results.0 ∷ results.1 ∷ results.2 ∷ results.3 ∷ []

-- Of a call with one result, and with two
abbrev pub single : Outcome ℕ → Outcome Results
single o = and_then o (λ x. Ok (x, 0, 0, 0))

abbrev pub pair : Outcome (ℕ × ℕ) → Outcome Results
pair o = and_then o (λ x. Ok (x.0, x.1, 0, 0))

-- Of a call that answers a header: its bits, count and total; and of one that answers how many bytes are in use besides, first these
abbrev pub three : Outcome Header → Outcome Results
three o = and_then o (λ h. Ok (h.bits, h.count, h.total, 0))

abbrev pub headed : Outcome (ℕ × Header) → Outcome Results
headed o = and_then o (λ x. Ok (x.0, x.1.bits, x.1.count, x.1.total))

-- The six numbers of the struct
abbrev pub values : Answer → List ℕ
values a = a.number ∷ a.place ∷ a.first ∷ a.second ∷ a.third ∷ a.fourth ∷ []
