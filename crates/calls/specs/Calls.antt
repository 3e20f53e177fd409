-- What calls answer and leave behind (paper 01, "When a call says no").
use Rattle.std.specs.Prelude.{Bool, true, false, List, ◌++◌, ℕ, length, drop, Result, Ok, Err}
use Rattle.calls.specs.declared.Refusal.{Refusal}
use Rattle.calls.specs.Refusals.{reason}

-- A call is accepted with its results, or refused
abbrev pub Outcome : Type 0 → Type 0
Outcome A = Result A Refusal

-- An accepted call answers 0 and its results. A refusal answers its number and its place; all other results are those given for none: zeros
abbrev pub answer_number : {A : Type 0} → Outcome A → ℕ
answer_number (Ok x) = 0
answer_number (Err r) = (reason r).0

abbrev pub answer_place : {A : Type 0} → Outcome A → ℕ
answer_place (Ok x) = 0
answer_place (Err r) = (reason r).1

abbrev pub answer_results : {A : Type 0} → A → Outcome A → A
answer_results none (Ok x) = x
answer_results none (Err r) = none

-- A check refuses where it fails; else what comes after it decides
abbrev pub check : {A : Type 0} → Refusal → Bool → Outcome A → Outcome A
check r true next = Err r
check r false next = next

-- What a call goes on with once a part of it has been accepted
abbrev pub and_then : {A B : Type 0} → Outcome A → (A → Outcome B) → Outcome B
and_then (Ok x) next = next x
and_then (Err r) next = Err r

-- A lent buffer afterwards: what an accepted call writes, and what stood after it; a refusal writes to no buffer
abbrev pub buffer : {A : Type 0} → Outcome A → List ℕ → List ℕ → List ℕ
buffer (Ok x) written before = written ++ drop (length written) before
buffer (Err r) written before = before
