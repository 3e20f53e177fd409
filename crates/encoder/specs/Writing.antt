-- Writing a row (paper 01, "When a call says no": Write; paper 02, R-4: the header beside the byte count). The checks stand in the paper's order.
use Rattle.std.specs.Prelude.{◌≡◌, not, List, ℕ, ltb, length, Ok}
use Rattle.fibonacci.specs.Encoding.{encoding}
use Rattle.calls.specs.declared.Refusal.TheVariants.{BadOrder, BadNumber, TooManyNumbers, NoRoom}
use Rattle.calls.specs.Calls.{Outcome, check, buffer}
use Rattle.calls.specs.Limits.{is_order, max_number, max_count, check_each}
use Rattle.headers.specs.declared.Header.{Header}
use Rattle.headers.specs.Headers.{header_of}

-- Write: 1 order not 2 to 6; 4 more than 4,096 numbers; 3 a number is 0 (or above the largest, which none of 32 bits is); 5 the output is shorter than the
-- encoding; else its bytes and its header
unfoldable pub write : ℕ → List ℕ → ℕ → Outcome (ℕ × Header)
write m row room =
    check BadOrder (not (is_order m))
    (check TooManyNumbers (ltb max_count (length row))
    (check_each BadNumber max_number 0 row
    (check NoRoom (ltb room (length (encoding m row)))
    (Ok (length (encoding m row), header_of m row)))))

-- The output after writing
unfoldable pub write_into : ℕ → List ℕ → List ℕ → List ℕ
write_into m row before = buffer (write m row (length before)) (encoding m row) before

-- What is promised of the answer, and of the output before and after
abbrev pub WritePromise : ℕ → List ℕ → List ℕ → Outcome (ℕ × Header) → List ℕ → Type 0
WritePromise m row before a after = (a ≡ write m row (length before)) × (after ≡ write_into m row before)
