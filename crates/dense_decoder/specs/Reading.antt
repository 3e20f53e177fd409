-- Reading bytes of the dense code (paper 02, R-2). The checks stand in the paper's order.
use Rattle.std.specs.Prelude.{◌≡◌, not, List, ℕ, leb, length}
use Rattle.codes.specs.Parse.{rest}
use Rattle.calls.specs.declared.Refusal.TheVariants.{BadStoppers, Unfinished}
use Rattle.calls.specs.Calls.{Outcome, check, and_then, buffer}
use Rattle.calls.specs.Limits.{max_number}
use Rattle.calls.specs.Reading.{Code, decode, counted}
use Rattle.dense.specs.Encoding.{parse, numbers}
use Rattle.dense.specs.Limits.{is_stoppers, continuers, max_dense_bytes}

-- The dense code with s stoppers, as far as reading goes by it. 17, in 6's place: the input ends inside a codeword
abbrev pub dense : ℕ → Code
dense s =
    record { byte_limit = max_dense_bytes; numbers = numbers s (continuers s); unfinished = λ b. leb 1 (length (rest (parse s b))); fault = Unfinished }

-- Read: 16 s is not 1 to 254; 2, then 4 and 7, 17; 5 the output is shorter than the row; else the count
unfoldable pub read_dense : ℕ → List ℕ → ℕ → Outcome ℕ
read_dense s b room = check BadStoppers (not (is_stoppers s)) (and_then (decode (dense s) max_number b) (counted room))

-- The output after reading
unfoldable pub read_dense_into : ℕ → List ℕ → List ℕ → List ℕ
read_dense_into s b before = buffer (read_dense s b (length before)) (numbers s (continuers s) b) before

-- What is promised of the answer, and of the output before and after
abbrev pub ReadPromise : ℕ → List ℕ → List ℕ → Outcome ℕ → List ℕ → Type 0
ReadPromise s b before a after = (a ≡ read_dense s b (length before)) × (after ≡ read_dense_into s b before)
