-- Replacing a number of an encoding (paper 02, R-5), and seeing what comes of it before that (R-6). The checks stand in the papers' order.
use Rattle.std.specs.Prelude.{◌≡◌, not, List, ◌++◌, ℕ, ◌-◌, leb, ltb, length, take, set, replicate, Ok}
use Rattle.bits.specs.Bits.{unpack}
use Rattle.fibonacci.specs.Encoding.{encoding, numbers}
use Rattle.calls.specs.declared.Refusal.TheVariants.{BadOrder, PastBuffer, BadPlace, BadNumber, NoRoom}
use Rattle.calls.specs.Calls.{Outcome, check, and_then, buffer}
use Rattle.calls.specs.Limits.{is_order, is_outside, max_number}
use Rattle.calls.specs.Reading.{decode}
use Rattle.reading.specs.Reading.{fibonacci}
use Rattle.headers.specs.declared.Header.{Header}
use Rattle.headers.specs.Headers.{header_of}

-- A number for another of a row, in a buffer with so much room: 8 the place is not below the count; 3 the number is 0 (or above the largest, which none of 32
-- bits is); 5 the encoding of the changed row passes the buffer; else its bytes and its header
unfoldable pub change : ℕ → ℕ → List ℕ → ℕ → ℕ → Outcome (ℕ × Header)
change m room row place n =
    check BadPlace (leb (length row) place)
    (check (BadNumber 0) (is_outside max_number n)
    (check NoRoom (ltb room (length (encoding m (set row place n))))
    (Ok (length (encoding m (set row place n)), header_of m (set row place n)))))

-- Replace a number of the encoding in the first bytes of a buffer: 1; 2 bytes in use above the buffer, or above 24,064; 4 and 7, and 6, as reading has them;
-- then 8, 3, 5
unfoldable pub replace : ℕ → List ℕ → ℕ → ℕ → ℕ → Outcome (ℕ × Header)
replace m before used place n =
    check BadOrder (not (is_order m))
    (check PastBuffer (ltb (length before) used)
    (and_then (decode (fibonacci m) max_number (take used before)) (λ row. change m (length before) row place n)))

-- The encoding of a row, and zeros up to where another ended
abbrev pub filled : ℕ → List ℕ → ℕ → List ℕ
filled m row used = encoding m row ++ replicate (used - length (encoding m row)) 0

-- The buffer after replacing: the encoding of the changed row, zeros where the old one was longer, and what stood after both
unfoldable pub replace_into : ℕ → List ℕ → ℕ → ℕ → ℕ → List ℕ
replace_into m before used place n =
    buffer (replace m before used place n) (filled m (set (numbers m (unpack (take used before))) place n) used) before

-- What is promised of the answer, and of the buffer before and after
abbrev pub ReplacePromise : ℕ → List ℕ → ℕ → ℕ → ℕ → Outcome (ℕ × Header) → List ℕ → Type 0
ReplacePromise m before used place n a after =
    (a ≡ replace m before used place n) × (after ≡ replace_into m before used place n)

-- Seeing the change before making it (R-6): the answer of the replacement, header and refusal alike
abbrev pub preview : ℕ → List ℕ → ℕ → ℕ → ℕ → Outcome (ℕ × Header)
preview m buf used place n = replace m buf used place n
