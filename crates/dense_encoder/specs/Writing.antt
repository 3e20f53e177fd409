-- Writing a row in the dense code (paper 02, R-2). The checks stand in the paper's order.
use Rattle.std.specs.Prelude.{◌≡◌, not, List, ℕ, ltb, length}
use Rattle.calls.specs.declared.Refusal.TheVariants.{BadNumber, TooManyNumbers, BadStoppers}
use Rattle.calls.specs.Calls.{Outcome, check, buffer}
use Rattle.calls.specs.Limits.{max_number, max_count, check_each}
use Rattle.calls.specs.Reading.{counted}
use Rattle.dense.specs.Encoding.{encoding}
use Rattle.dense.specs.Limits.{is_stoppers, continuers}

-- Write: 16 s is not 1 to 254; 4 more than 4,096 numbers; 3 a number is 0 (or above the largest, which none of 32 bits is); 5 the output is shorter than the
-- encoding; else its bytes
unfoldable pub write_dense : ℕ → List ℕ → ℕ → Outcome ℕ
write_dense s row room =
    check BadStoppers (not (is_stoppers s))
    (check TooManyNumbers (ltb max_count (length row))
    (check_each BadNumber max_number 0 row
    (counted room (encoding s (continuers s) row))))

-- The output after writing
unfoldable pub write_dense_into : ℕ → List ℕ → List ℕ → List ℕ
write_dense_into s row before = buffer (write_dense s row (length before)) (encoding s (continuers s) row) before

-- What is promised of the answer, and of the output before and after
abbrev pub WritePromise : ℕ → List ℕ → List ℕ → Outcome ℕ → List ℕ → Type 0
WritePromise s row before a after = (a ≡ write_dense s row (length before)) × (after ≡ write_dense_into s row before)
