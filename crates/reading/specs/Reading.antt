-- Reading an encoding (paper 01, "When a call says no": Read). The checks stand in the paper's order.
use Rattle.std.specs.Prelude.{◌≡◌, Bool, true, not, ◌||◌, List, ℕ, leb, length}
use Rattle.bits.specs.Bits.{unpack, count}
use Rattle.codes.specs.Parse.{rest}
use Rattle.fibonacci.specs.Encoding.{parse, numbers}
use Rattle.calls.specs.declared.Refusal.TheVariants.{BadOrder, BadRest}
use Rattle.calls.specs.Calls.{Outcome, check, and_then, buffer}
use Rattle.calls.specs.Limits.{is_order, max_number, max_bytes}
use Rattle.calls.specs.Reading.{Code, decode, counted}

-- 6: the rest (paper 01: the remainder) has 8 bits or more or holds a one
abbrev pub is_bad_rest : List Bool → Bool
is_bad_rest r = leb 8 (length r) || leb 1 (count true r)

-- The Fibonacci code of order m, as far as reading goes by it
abbrev pub fibonacci : ℕ → Code
fibonacci m =
    record { byte_limit = max_bytes; numbers = λ s. numbers m (unpack s); unfinished = λ s. is_bad_rest (rest (parse m (unpack s))); fault = BadRest }

-- Read: 1; 2, then 4 and 7, 6; 5 the output is shorter than the row; else the count
unfoldable pub read : ℕ → List ℕ → ℕ → Outcome ℕ
read m s room = check BadOrder (not (is_order m)) (and_then (decode (fibonacci m) max_number s) (counted room))

-- The output after reading
unfoldable pub read_into : ℕ → List ℕ → List ℕ → List ℕ
read_into m s before = buffer (read m s (length before)) (numbers m (unpack s)) before

-- What a reader of order m promises of its answer, and of its output before and after
abbrev pub ReadPromise : ℕ → List ℕ → List ℕ → Outcome ℕ → List ℕ → Type 0
ReadPromise m s before a after = (a ≡ read m s (length before)) × (after ≡ read_into m s before)
