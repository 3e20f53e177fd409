-- What paper 02 (R-2) asks of the dense code: exact reading and one writing per row, shown for all s together; and examples.
use Rattle.std.specs.Prelude.{◌≡◌, true, ◌↔◌, ℕ, suc, ◌+◌, ◌*◌, ◌≤◌, ◌<◌, length, take, drop, replicate, Ok, Err}
use mathlib.Core.List.{List, [], ◌∷◌, ◌++◌, map, IsPrefix}
use Rattle.lists.specs.Lists.{All}
use Rattle.bits.specs.Bits.{Bytes}
use Rattle.codes.specs.Rows.{Positive}
use Rattle.codes.specs.Parse.{Parse, parsed, rest}
use Rattle.calls.specs.declared.Refusal.TheVariants.{TooLarge, BadStoppers, Unfinished}
use Rattle.calls.specs.Limits.{is_number, max_number, max_count}
use Rattle.dense.specs.Code.{Codeword, first, value, number, codeword}
use Rattle.dense.specs.Encoding.{encoding, IsParse, parse, numbers}
use Rattle.dense.specs.Limits.{Stoppers, continuers}
use Rattle.dense_encoder.specs.Writing.{write_dense, write_dense_into}
use Rattle.dense_decoder.specs.Reading.{read_dense, read_dense_into}
use Rattle.demands.specs.Readers.{ReturnsParse}

pub record DenseCode (s c : ℕ) : Type 0 where
  -- 1. Each codeword means a number from 1 up, and each such number has exactly one codeword
  pub number_of_codeword : (w : List ℕ) → Codeword s c w → 1 ≤ number s c w
  pub codeword_of_number : (n : ℕ) → 1 ≤ n → Codeword s c (codeword s c n) × (number s c (codeword s c n) ≡ n)
  pub no_other_codeword : (w : List ℕ) (n : ℕ) → Codeword s c w → number s c w ≡ n → w ≡ codeword s c n
  -- by its leading bytes and its last byte
  pub number_digits : (u : List ℕ) (b : ℕ) → number s c (u ++ (b ∷ [])) ≡ first s c (length u) + (value s c 0 u * s + b)
  -- shorter codewords come first
  pub shorter_first : (v w : List ℕ) → Codeword s c v → Codeword s c w → length v < length w → number s c v < number s c w
  -- those with k leading bytes are those of the numbers from the first number of k up to the next first number
  pub numbers_of_length : (w : List ℕ) (k : ℕ) → Codeword s c w
      → (length w ≡ suc k) ↔ ((first s c k ≤ number s c w) × (number s c w < first s c (suc k)))
  -- 2. Every string of bytes is made of codewords and a rest in which none ends, and that in one way only
  pub has_parse : (b : List ℕ) → All (λ x. x < s + c) b → IsParse s c b (parse s b)
  pub no_other_parse : (b : List ℕ) (p : Parse ℕ) → IsParse s c b p → p ≡ parse s b
  -- 3. Two rows with the same bytes are the same row; the bytes of one row begin those of another exactly when the one row begins the other
  pub rows_apart : (a b : List ℕ) → Positive a → Positive b → encoding s c a ≡ encoding s c b → a ≡ b
  pub rows_begin : (a b : List ℕ) → Positive a → Positive b → IsPrefix (encoding s c a) (encoding s c b) ↔ IsPrefix a b
  -- 4. The parse of a row's bytes is its codewords, and nothing is left; bytes of which nothing is left are those of their row
  pub parse_of_row : (row : List ℕ) → Positive row → parse s (encoding s c row) ≡ parsed (map (codeword s c) row) []
  pub row_of_parse : (b : List ℕ) → All (λ x. x < s + c) b → rest (parse s b) ≡ [] → encoding s c (numbers s c b) ≡ b

pub record DenseRoundTrip (s : ℕ) : Type 0 where
  -- What writing gives is read, and the row comes back
  pub written_read : (row before out : List ℕ) (bytes : ℕ) → write_dense s row (length before) ≡ Ok bytes → length row ≤ length out
      → let b = take bytes (write_dense_into s row before) in
      (read_dense s b (length out) ≡ Ok (length row)) × (read_dense_into s b out ≡ row ++ drop (length row) out)
  -- What is read is what writing its row gives: nothing else is accepted
  pub read_written : (b out before : List ℕ) (count : ℕ) → Bytes b → read_dense s b (length out) ≡ Ok count → length b ≤ length before
      → let row = take count (read_dense_into s b out) in
      (write_dense s row (length before) ≡ Ok (length b)) × (write_dense_into s row before ≡ b ++ drop (length b) before)
  -- What is accepted is the numbers of the parse of all the bytes, and their count
  pub returns_parse : ReturnsParse (numbers s (continuers s)) (read_dense s) (read_dense_into s)
  -- Rows whose bytes are the same are the same row
  pub written_apart : (row other before after : List ℕ) (bytes : ℕ) → write_dense s row (length before) ≡ Ok bytes
      → write_dense s other (length after) ≡ Ok bytes
      → take bytes (write_dense_into s row before) ≡ take bytes (write_dense_into s other after) → row ≡ other

-- "A dense input may have 102,400 bytes"
pub record DenseLengths : Type 0 where
  -- no legal number has more than 25 bytes, whatever s is; with s = 254 the largest has so many
  pub longest : (s n : ℕ) → Stoppers s → is_number max_number n ≡ true → length (codeword s (continuers s) n) ≤ 25
  pub reached : length (codeword 254 2 max_number) ≡ 25
  -- 4,096 such are written and read
  pub full_written : (room : ℕ) → 102400 ≤ room → write_dense 254 (replicate max_count max_number) room ≡ Ok 102400
  pub full_read : (room : ℕ) → max_count ≤ room → read_dense 254 (encoding 254 2 (replicate max_count max_number)) room ≡ Ok max_count

pub record DenseExamples : Type 0 where
  -- the paper's
  pub paper : map (codeword 128 128) (128 ∷ 129 ∷ 16512 ∷ 16513 ∷ []) ≡
      (0x7F ∷ []) ∷ (0x80 ∷ 0x00 ∷ []) ∷ (0xFF ∷ 0x7F ∷ []) ∷ (0x80 ∷ 0x80 ∷ 0x00 ∷ []) ∷ []
  -- with the most stoppers and with the fewest
  pub most : map (codeword 254 2) (254 ∷ 255 ∷ 508 ∷ 509 ∷ 763 ∷ []) ≡
      (0xFD ∷ []) ∷ (0xFE ∷ 0x00 ∷ []) ∷ (0xFE ∷ 0xFD ∷ []) ∷ (0xFF ∷ 0x00 ∷ []) ∷ (0xFE ∷ 0xFE ∷ 0x00 ∷ []) ∷ []
  pub fewest : map (codeword 1 255) (1 ∷ 2 ∷ 257 ∷ []) ≡ (0x00 ∷ []) ∷ (0x01 ∷ 0x00 ∷ []) ∷ (0x01 ∷ 0x01 ∷ 0x00 ∷ []) ∷ []
  -- 16: s is not 1 to 254
  pub no_stoppers : (read_dense 0 [] 0 ≡ Err BadStoppers) × (write_dense 0 [] 0 ≡ Err BadStoppers)
  pub too_many_stoppers : (read_dense 255 [] 0 ≡ Err BadStoppers) × (write_dense 255 [] 0 ≡ Err BadStoppers)
  -- 17, and 7 only at a codeword that is finished, however long
  pub empty : read_dense 128 [] 0 ≡ Ok 0
  pub open_short : read_dense 128 (0x80 ∷ []) 1 ≡ Err Unfinished
  pub open_long : read_dense 128 (replicate 30 0xFF) 1 ≡ Err Unfinished
  pub long : read_dense 128 (replicate 30 0xFF ++ (0x00 ∷ [])) 1 ≡ Err (TooLarge 0)

pub record DenseDemand : Type 0 where
  -- for any s and c from 1 up; operations take c = 256 - s, and refuse other s than 1 to 254
  pub code : (s c : ℕ) → 1 ≤ s → 1 ≤ c → DenseCode s c
  pub round_trip : (s : ℕ) → DenseRoundTrip s
  pub lengths : DenseLengths
  pub examples : DenseExamples
