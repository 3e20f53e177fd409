-- What paper 02 (R-4) asks of headers: which are true, what a true one says, and what appending by one gives.
use Rattle.std.specs.Prelude.{◌≡◌, false, List, [], ◌∷◌, ◌++◌, ◌↔◌, ℕ, suc, length, take, Ok, Err}
use Rattle.bits.specs.Bits.{Bytes, byte_count, unpack}
use Rattle.fibonacci.specs.Encoding.{numbers}
use Rattle.calls.specs.declared.Refusal.TheVariants.{BadHeader, BadNumber, NoRoom}
use Rattle.calls.specs.Calls.{Outcome, answer_results, and_then}
use Rattle.calls.specs.Limits.{Order, max_number, max_count}
use Rattle.headers.specs.declared.Header.{Header}
use Rattle.headers.specs.Headers.{header, header_of, no_header, max_total, is_bad_header}
use Rattle.totals.specs.Totals.{total}
use Rattle.header_reader.specs.Reading.{read_header}
use Rattle.encoder.specs.Writing.{write, write_into}
use Rattle.appender.specs.Appending.{append, append_into}

-- The bytes of a buffer that a header's bits reach
abbrev pub reached : List ℕ → Header → List ℕ
reached buf h = take (byte_count h.bits) buf

-- A header is true in an order, of a buffer, if reading the bytes that its bits reach in that order gives it
abbrev pub IsTrue : ℕ → List ℕ → Header → Type 0
IsTrue m buf h = read_header m (reached buf h) ≡ Ok h

-- The row that stands in these bytes
abbrev pub row_of : ℕ → List ℕ → Header → List ℕ
row_of m buf h = numbers m (unpack (reached buf h))

-- The numbers of a list appended one after the other, by a buffer and its header: both afterwards, or the first refusal
abbrev pub append_all : ℕ → List ℕ → Header → List ℕ → Outcome (List ℕ × Header)
append_all m buf h [] = Ok (buf, h)
append_all m buf h (n ∷ ns) = and_then (append m (length buf) h n) (λ x. append_all m (append_into m buf h n) x.1 ns)

-- For every order, all rows, buffers and numbers
pub record HeaderDemand (m : ℕ) : Type 0 where
  -- 1. A header is true that writing gives, of the output; that reading gives, of the bytes, whatever stands behind them; that an accepted append gives, from a
  -- true one, of the buffer; and (0, 0, 0), of every buffer
  pub written_true : (row before : List ℕ) (bytes : ℕ) (h : Header) → write m row (length before) ≡ Ok (bytes, h) → IsTrue m (write_into m row before) h
  pub read_true : (s behind : List ℕ) (h : Header) → read_header m s ≡ Ok h → IsTrue m (s ++ behind) h
  pub appended_true : (before : List ℕ) (h : Header) (n bytes : ℕ) (g : Header) → IsTrue m before h → append m (length before) h n ≡ Ok (bytes, g)
      → IsTrue m (append_into m before h n) g
  pub none_true : Order m → (buf : List ℕ) → IsTrue m buf no_header
  -- 2. A true header has the bits, the count and the sum of its row; so its total is what the call for the whole row answers, and it passes the check 18
  pub true_row : (buf : List ℕ) (h : Header) → IsTrue m buf h → h ≡ header_of m (row_of m buf h)
  pub true_total : (buf : List ℕ) (h : Header) → IsTrue m buf h → total m (reached buf h) 0 h.count ≡ Ok h.total
  pub true_good : (buf : List ℕ) (h : Header) → IsTrue m buf h → is_bad_header (length buf) h ≡ false
  -- 3. From a true header, appending accepts what writing the longer row does, and answers and leaves the same
  pub appended_longer : (before : List ℕ) (h : Header) (n : ℕ) → IsTrue m before h → (x : ℕ × Header)
      → (append m (length before) h n ≡ Ok x) ↔ (write m (row_of m before h ++ (n ∷ [])) (length before) ≡ Ok x)
  pub appended_into : (before : List ℕ) (h : Header) (n : ℕ) → IsTrue m before h → (x : ℕ × Header) → append m (length before) h n ≡ Ok x
      → append_into m before h n ≡ write_into m (row_of m before h ++ (n ∷ [])) before
  -- 4. Number after number that is writing the longer row; from (0, 0, 0) on it is writing the row
  pub appended_all : (before ns : List ℕ) (h : Header) (bytes : ℕ) (g : Header) → Bytes before → IsTrue m before h
      → write m (row_of m before h ++ ns) (length before) ≡ Ok (bytes, g) → append_all m before h ns ≡ Ok (write_into m (row_of m before h ++ ns) before, g)
  pub appended_written : (row before : List ℕ) (bytes : ℕ) (h : Header) → write m row (length before) ≡ Ok (bytes, h)
      → append_all m before no_header row ≡ Ok (write_into m row before, h)

-- In order 2
pub record HeaderExamples : Type 0 where
  -- byte FF holds 1, 1, 1, 1, so that (2, 1, 1) is false of it, though C0 has this header; appending by it keeps two bits
  pub read_ones : read_header 2 (0xff ∷ []) ≡ Ok (header 8 4 4)
  pub not_true : IsTrue 2 (0xff ∷ []) (header 2 1 1) → ⊥
  pub is_true : IsTrue 2 (0xc0 ∷ []) (header 2 1 1)
  pub by_false : append 2 1 (header 2 1 1) 1 ≡ Ok (1, header 4 2 2)
  pub by_false_into : append_into 2 (0xff ∷ []) (header 2 1 1) 1 ≡ 0xf0 ∷ []
  pub later_bytes : append_into 2 (0xc0 ∷ 0xff ∷ 0xff ∷ []) (header 2 1 1) 2 ≡ 0xd8 ∷ 0xff ∷ 0xff ∷ []
  -- 5 where the bits would pass 192,512
  pub most_bits : append 2 24064 (header 192500 0 0) 1 ≡ Ok (24063, header 192502 1 1)
  pub too_many_bits : append 2 24064 (header 192500 0 0) max_number ≡ Err NoRoom
  -- 3 before 4; after a refusal the results are zeros, the header's too
  pub full_row : append 2 1 (header 0 max_count 0) 0 ≡ Err (BadNumber 0)
  pub refused_header : answer_results (0, no_header) (append 2 1 (header 0 max_count 0) 0) ≡ (0, header 0 0 0)
  -- 18 looks at the header that is given
  pub most_total : append 2 1 (header 0 0 max_total) 1 ≡ Ok (1, header 2 1 (suc max_total))
  pub too_much_total : append 2 1 (header 2 1 (suc max_total)) 1 ≡ Err BadHeader
