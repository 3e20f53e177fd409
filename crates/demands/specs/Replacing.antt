-- What paper 02 asks of replacing a number of an encoding (R-5), and of seeing what comes of it before that (R-6).
use Rattle.std.specs.Prelude.{◌≡◌, List, [], ◌∷◌, ◌++◌, ℕ, ◌≤◌, ◌<◌, max, length, take, drop, get_or, set, Ok, Err}
use Rattle.bits.specs.Bits.{Bytes, unpack}
use Rattle.fibonacci.specs.Encoding.{row_bits, numbers}
use Rattle.calls.specs.declared.Refusal.TheVariants.{BadPlace, NoRoom}
use Rattle.calls.specs.Limits.{max_number}
use Rattle.reading.specs.Reading.{read, read_into}
use Rattle.headers.specs.declared.Header.{Header}
use Rattle.headers.specs.Headers.{header}
use Rattle.header_reader.specs.Reading.{read_header}
use Rattle.replacer.specs.Replacing.{replace, replace_into, preview}
use Rattle.demands.specs.Headers.{IsTrue}

-- The row in the bytes of a buffer that are in use
abbrev pub row_in : ℕ → List ℕ → ℕ → List ℕ
row_in m buf used = numbers m (unpack (take used buf))

-- For every order, buffer, place and number that a replacement accepts, with so many bytes in use
pub record Replaced (m : ℕ) (before : List ℕ) (used place n bytes : ℕ) (h : Header) : Type 0 where
  -- 1. The header that it answers is true of the buffer afterwards
  pub header_true : IsTrue m (replace_into m before used place n) h
  -- 2. Reading the bytes then in use gives the changed row
  pub reads : (out : List ℕ) → h.count ≤ length out
      → let row = set (row_in m before used) place n in
      let s = take bytes (replace_into m before used place n) in
      (read m s (length out) ≡ Ok (length row)) × (read_into m s out ≡ row ++ drop (length row) out)
  -- 3. The codewords before the place keep their bits
  pub keeps_bits : let k = length (row_bits m (take place (row_in m before used))) in
      take k (unpack (replace_into m before used place n)) ≡ take k (unpack before)
  -- 4. Another replacement at that place answers what it would have answered at first; one that is accepted leaves the bytes then in use so too, and the whole
  -- buffer, where the first replacement came no further than the old end or the last one's
  pub again : (k : ℕ) → replace m (replace_into m before used place n) bytes place k ≡ replace m before used place k
  pub again_in_use : (k b : ℕ) (g : Header) → replace m before used place k ≡ Ok (b, g)
      → take b (replace_into m (replace_into m before used place n) bytes place k) ≡ take b (replace_into m before used place k)
  pub again_into : (k b : ℕ) (g : Header) → replace m before used place k ≡ Ok (b, g) → bytes ≤ max used b
      → replace_into m (replace_into m before used place n) bytes place k ≡ replace_into m before used place k

pub record ReplaceDemand (m : ℕ) : Type 0 where
  pub replaced : (before : List ℕ) (used place n bytes : ℕ) (h : Header) → replace m before used place n ≡ Ok (bytes, h) → Replaced m before used place n bytes h
  -- 5. Replacing by the same number answers the header that reading gives, and changes nothing
  pub same_number : (before : List ℕ) (used place : ℕ) (h : Header) → used ≤ length before → read_header m (take used before) ≡ Ok h → place < h.count
      → replace m before used place (get_or (row_in m before used) place 0) ≡ Ok (used, h)
  pub same_buffer : (before : List ℕ) (used place : ℕ) (h : Header) → used ≤ length before → read_header m (take used before) ≡ Ok h → place < h.count
      → Bytes before → replace_into m before used place (get_or (row_in m before used) place 0) ≡ before

-- In order 2
pub record ReplaceExamples : Type 0 where
  -- a shorter encoding: zeros up to the old end, and not a byte further
  pub shorter : replace 2 (0x24 ∷ 0x88 ∷ 0x08 ∷ 0xa2 ∷ 0xa1 ∷ 0x16 ∷ 0xaa ∷ 0xaa ∷ []) 6 0 1 ≡ Ok (1, header 2 1 1)
  pub shorter_into : replace_into 2 (0x24 ∷ 0x88 ∷ 0x08 ∷ 0xa2 ∷ 0xa1 ∷ 0x16 ∷ 0xaa ∷ 0xaa ∷ []) 6 0 1
      ≡ 0xc0 ∷ 0x00 ∷ 0x00 ∷ 0x00 ∷ 0x00 ∷ 0x00 ∷ 0xaa ∷ 0xaa ∷ []
  -- 3 1 4 2 1 with 1 at place 2
  pub inside : replace 2 (0x3e ∷ 0xde ∷ []) 2 2 1 ≡ Ok (2, header 13 5 8)
  pub inside_into : replace_into 2 (0x3e ∷ 0xde ∷ []) 2 2 1 ≡ 0x3f ∷ 0x78 ∷ []
  -- 8 before 3
  pub past_the_row : replace 2 (0x3e ∷ 0xde ∷ []) 2 5 0 ≡ Err BadPlace
  -- 5: 9 fits the one byte, the largest number does not
  pub longer_into : replace_into 2 (0xc0 ∷ []) 1 0 9 ≡ 0x8c ∷ []
  pub too_long : replace 2 (0xc0 ∷ []) 1 0 max_number ≡ Err NoRoom
  -- 5 goes by the whole buffer: 100 takes a second byte, where one is in use; 1 in its place then leaves a zero there, and would not have touched it at first
  pub again_further : replace_into 2 (replace_into 2 (0xc0 ∷ 0xaa ∷ []) 1 0 100) 2 0 1 ≡ 0xc0 ∷ 0x00 ∷ []
  pub at_first : replace_into 2 (0xc0 ∷ 0xaa ∷ []) 1 0 1 ≡ 0xc0 ∷ 0xaa ∷ []

-- For every order, buffer, place and number, accepted or refused
pub record PreviewDemand (m : ℕ) : Type 0 where
  -- 1. A preview equals in every result what the replacement answers on a copy of the buffer: number, place, bytes in use and header
  pub same_answer : (buf : List ℕ) (used place n : ℕ) → preview m buf used place n ≡ replace m buf used place n
  -- 2. Its header is true of the copy after the replacement; of the buffer itself nothing is said
  pub header_true : (buf : List ℕ) (used place n bytes : ℕ) (h : Header) → preview m buf used place n ≡ Ok (bytes, h)
      → IsTrue m (replace_into m buf used place n) h
  -- 3. Once a number is kept, the others at that place are seen as before
  pub kept : (buf : List ℕ) (used place n bytes : ℕ) (h : Header) → replace m buf used place n ≡ Ok (bytes, h)
      → (k : ℕ) → preview m (replace_into m buf used place n) bytes place k ≡ preview m buf used place k

-- In order 2
pub record PreviewExamples : Type 0 where
  -- 9 for the 1 in one byte: the header is true of the byte that comes of it, and not of the one there is
  pub longer : preview 2 (0xc0 ∷ []) 1 0 9 ≡ Ok (1, header 6 1 9)
  pub true_after : IsTrue 2 (0x8c ∷ []) (header 6 1 9)
  pub not_before : IsTrue 2 (0xc0 ∷ []) (header 6 1 9) → ⊥
  -- 5 goes by the whole buffer
  pub too_long : preview 2 (0xc0 ∷ []) 1 0 max_number ≡ Err NoRoom
  pub long_enough : preview 2 (0xc0 ∷ 0xaa ∷ 0xaa ∷ 0xaa ∷ 0xaa ∷ 0xaa ∷ []) 1 0 max_number ≡ Ok (6, header 47 1 max_number)
