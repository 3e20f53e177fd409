-- What demands 2 and 3 (paper 00) say of the two readers: the decoder (paper 01: the bit reader) and the table decoder (the byte reader).
use Rattle.std.specs.Prelude.{◌≡◌, List, ◌++◌, ℕ, ◌*◌, ◌/◌, length, drop, Ok}
use Rattle.bits.specs.Bits.{unpack}
use Rattle.fibonacci.specs.Encoding.{numbers}
use Rattle.calls.specs.Calls.{Outcome}
use Rattle.reading.specs.Reading.{read, read_into}
use Rattle.table_decoder.specs.Reading.{read_table, read_table_into, row_bytes, read_bytes, read_bytes_into}

-- A reader is what it answers for bytes and the length of its output, and its output afterwards. Where it accepts, it returns exactly the numbers of the
-- parse of all the bytes, in order, and as its count how many there are (demand 3, its last sentence); which these are, the code says
abbrev pub ReturnsParse : (List ℕ → List ℕ) → (List ℕ → ℕ → Outcome ℕ) → (List ℕ → List ℕ → List ℕ) → Type 0
ReturnsParse parsed answer output =
    (s before : List ℕ) (count : ℕ) → answer s (length before) ≡ Ok count → (count ≡ length (parsed s)) × (output s before ≡ parsed s ++ drop count before)

pub record TwoReaders : Type 0 where
  -- The two agree wherever both apply (demand 2): the table decoder's own chain of checks gives, for every input, what reading with order 3 gives
  pub agree : (s : List ℕ) (room : ℕ) → read_table s room ≡ read 3 s room
  pub agree_output : (s before : List ℕ) → read_table_into s before ≡ read_into 3 s before
  -- into bytes the answer is the same, with four bytes for each number
  pub agree_bytes : (s : List ℕ) (room : ℕ) → read_bytes s room ≡ read 3 s (room / 4)
  -- Where a reader accepts, it returns exactly the numbers of the parse, and their count; into bytes too
  pub returns_parse : (m : ℕ) → ReturnsParse (λ s. numbers m (unpack s)) (read m) (read_into m)
  pub returns_parse_table : ReturnsParse (λ s. numbers 3 (unpack s)) read_table read_table_into
  pub returns_parse_bytes : (s before : List ℕ) (count : ℕ) → read_bytes s (length before) ≡ Ok count
      → (count ≡ length (numbers 3 (unpack s))) × (read_bytes_into s before ≡ row_bytes (numbers 3 (unpack s)) ++ drop (4 * count) before)
