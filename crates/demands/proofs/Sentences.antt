-- The sentences under the table of examples.
use mathlib.Core.Path.{◌≡◌, refl, ap, ap₂, ◌∙◌}
use mathlib.Core.Bool.{true, false}
use mathlib.Core.List.{List, [], ◌∷◌, ◌++◌, flatten}
use Prim.Native.Nat.{ℕ, zero, suc, ◌*◌, ◌≤◌}
use native.Mathlib.Omega.{arith}
use native.Mathlib.Nat.{suc-mul}
use lib.ListN.{length, length-append, length-replicate}
use borrow.Author.Tests.{lt-ltb}
use Rattle.lists.specs.Lists.{sum}
use Rattle.lists.proofs.Each.{all_same}
use Rattle.lists.proofs.Sums.{sum_same}
use Rattle.bits.specs.Bits.{bit_of, word_bits, unpack, word_of, bytes_of, byte_count, pack, count}
use Rattle.bits.proofs.Packing.{pack-length}
use Rattle.fibonacci.specs.Code.{past, F, value, first, number, size, digits, codeword}
use Rattle.fibonacci.specs.Encoding.{row_bits, encoding, parse_after, parse, numbers}
use Rattle.calls.proofs.Checks.{is-order, number_is, positive}
use Rattle.calls.specs.declared.Refusal.TheVariants.{TooManyNumbers, TooManyCodewords, FullRow}
use Rattle.calls.specs.Limits.{Order, is_order, is_number, is_outside, Legal, max_number, max_count, check_each}
use Rattle.calls.specs.Reading.{check_finished, contents, decode}
use Rattle.fibonacci.proofs.Rows.{encoding-read}
use Rattle.fibonacci.proofs.Lookup.{codeword-short}
use Rattle.reading.specs.Reading.{fibonacci, read, read_into}
use Rattle.calls.proofs.Decoding.{decode-contents, contents-many}
use Rattle.headers.specs.declared.Header.{Header}
use Rattle.headers.specs.Headers.{header, header_of, capacity, is_bad_header}
use Rattle.headers.proofs.Headers.{capacity-least, is-good}
use Rattle.encoder.specs.Writing.{write}
use Rattle.encoder.proofs.Writing.{write-accepts}
use Rattle.appender.specs.Appending.{append}
use Rattle.appender.proofs.Appending.{append-full}
use Rattle.demands.specs.Pencil.{answer}
use Rattle.demands.specs.Sentences.{ones_row, Largest, Sentences}
use Rattle.std.specs.Prelude.{Ok, Err}

-- ## 4,096 ones

ones-legal : (k : ℕ) → Legal max_number (ones_row k)
unfolding ones_row is_number
ones-legal k = all_same (λ n. is_number max_number n ≡ true) k 1 refl

ones-length : (k : ℕ) → length (ones_row k) ≡ k
unfolding ones_row
ones-length k = length-replicate {A = ℕ} k 1

-- each is m bits
ones-bits : (m k : ℕ) → length (row_bits m (ones_row k)) ≡ k * m
unfolding ones_row row_bits flatten codeword size first digits
ones-bits m zero = omega arith
ones-bits m (suc k) =
    omega (arith, length-append (codeword m 1) (row_bits m (ones_row k)), length-replicate m true, ones-bits m k, suc-mul k m)

ones-bytes : (m k : ℕ) → length (encoding m (ones_row k)) ≡ byte_count (k * m)
unfolding encoding
ones-bytes m k = pack-length (row_bits m (ones_row k)) ∙ ap byte_count (ones-bits m k)

-- the last of one more
ones-more : (k : ℕ) → ones_row (suc k) ≡ ones_row k ++ (1 ∷ [])
unfolding ones_row
ones-more zero = refl
ones-more (suc k) = ap (λ (l : List ℕ). 1 ∷ l) (ones-more k)

module _ (m : ℕ) (o : Order m) where
  full-bytes : length (encoding m (ones_row max_count)) ≡ 512 * m
  full-bytes = omega (arith, ones-bytes m max_count)

  full-header : header_of m (ones_row max_count) ≡ header (4096 * m) 4096 4096
  unfolding ones_row
  full-header =
      ap₂ (λ (b k : ℕ). header b k (sum (ones_row max_count))) (ones-bits m max_count) (ones-length max_count) ∙ ap (header (4096 * m) 4096) (sum_same max_count 1)

  full : (room : ℕ) → 512 * m ≤ room → write m (ones_row max_count) room ≡ Ok (512 * m, header (4096 * m) 4096 4096)
  full room h =
      write-accepts m (ones_row max_count) room
      (record { asked = is-order m o; count = omega (arith, ones-length max_count); legal = ones-legal max_count; fits = omega (arith, full-bytes) })
      ∙ ap₂ (λ (k : ℕ) (h : Header). Ok (k, h)) full-bytes full-header

  written : (room : ℕ) → write m (ones_row (suc max_count)) room ≡ Err TooManyNumbers
  unfolding write
  written room = rw (is-order m o, lt-ltb max_count (length (ones_row (suc max_count))) (omega (arith, ones-length (suc max_count))))

  decoded : decode (fibonacci m) max_number (encoding m (ones_row (suc max_count))) ≡ Err TooManyCodewords
  decoded =
      decode-contents (fibonacci m) max_number (encoding m (ones_row (suc max_count))) (omega (arith, ones-bytes m (suc max_count)))
      ∙ contents-many (fibonacci m) max_number (encoding m (ones_row (suc max_count))) (ones_row max_count) (ones-legal max_count) 1 []
      (encoding-read m (ones_row (suc max_count)) (omega arith) (positive max_number (ones_row (suc max_count)) (ones-legal (suc max_count))) ∙ ones-more max_count)
      (ones-length max_count)

  read_back : (room : ℕ) → read m (encoding m (ones_row (suc max_count))) room ≡ Err TooManyCodewords
  unfolding read
  read_back room = rw (is-order m o, decoded)

  appended : (room : ℕ) → 512 * m ≤ room → append m room (header_of m (ones_row max_count)) 1 ≡ Err FullRow
  unfolding is_number
  appended room h =
      let bits : 4096 * m ≤ capacity room = capacity-least room (4096 * m) (omega arith) (omega (arith, o)) in
      let good : is_bad_header room (header (4096 * m) 4096 4096) ≡ false =
      is-good room (header (4096 * m) 4096 4096) (record { bits = bits; count = omega arith; total = omega arith }) in
      ap (λ (h : Header). append m room h 1) full-header ∙ append-full m room (header (4096 * m) 4096 4096) 1 (is-order m o) good refl (omega arith)

-- ## The largest number

largest_number : Largest
unfolding answer flatten bit_of word_bits unpack word_of bytes_of pack count past F value first number size digits codeword row_bits encoding parse_after parse numbers is_order is_number is_outside check_each check_finished contents decode read read_into write
largest_number = record { written = refl; read_back = refl; next = refl }

pub sentences-hold : Sentences
sentences-hold =
    record {
      longest = λ m o n e. let h = number_is max_number n e in codeword-short m n o h.0 h.1;
      ones = λ m o. record { full = full m o; written = written m o; read_back = read_back m o; appended = appended m o };
      largest_number = largest_number;
    }
