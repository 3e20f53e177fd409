-- Appending to an encoding by its header (paper 02, R-4; paper 01, "When a call says no": Append). The checks stand in the papers' order.
use Rattle.std.specs.Prelude.{◌≡◌, not, List, ◌++◌, ℕ, ◌+◌, leb, ltb, length, take, Ok}
use Rattle.bits.specs.Bits.{byte_count, unpack, pack}
use Rattle.fibonacci.specs.Code.{codeword}
use Rattle.calls.specs.declared.Refusal.TheVariants.{BadOrder, BadHeader, BadNumber, FullRow, NoRoom}
use Rattle.calls.specs.Calls.{Outcome, check, buffer}
use Rattle.calls.specs.Limits.{is_order, is_outside, max_number, max_count}
use Rattle.headers.specs.declared.Header.{Header}
use Rattle.headers.specs.Headers.{header, capacity, is_bad_header}

-- The header with a number more: the codeword's length, 1 and the number are added
abbrev pub extended : ℕ → Header → ℕ → Header
extended m h n = header (h.bits + length (codeword m n)) (h.count + 1) (h.total + n)

-- Append: 1; 18 the header given; 3 the number is 0 (or above the largest, which none of 32 bits is); 4 the row has 4,096 already; 5 the bits would pass the
-- buffer or 192,512; else the bytes then in use and the new header
unfoldable pub append : ℕ → ℕ → Header → ℕ → Outcome (ℕ × Header)
append m room h n =
    check BadOrder (not (is_order m))
    (check BadHeader (is_bad_header room h)
    (check (BadNumber 0) (is_outside max_number n)
    (check FullRow (leb max_count h.count)
    (check NoRoom (ltb (capacity room) (extended m h n).bits)
    (Ok (byte_count (extended m h n).bits, extended m h n))))))

-- The buffer after appending: the bits in use as they were, the codeword, zeros to the end of its byte, and what stood after it
unfoldable pub append_into : ℕ → List ℕ → Header → ℕ → List ℕ
append_into m before h n = buffer (append m (length before) h n) (pack (take h.bits (unpack before) ++ codeword m n)) before

-- What is promised of the answer, and of the buffer before and after
abbrev pub AppendPromise : ℕ → List ℕ → Header → ℕ → Outcome (ℕ × Header) → List ℕ → Type 0
AppendPromise m before h n a after = (a ≡ append m (length before) h n) × (after ≡ append_into m before h n)
