-- What is asked of the dense code holds, for all s together.
use mathlib.Core.Path.{◌≡◌, refl, sym, ap, ap₂, ◌∙◌}
use mathlib.Core.Bool.{true}
use mathlib.Core.List.{List, ◌++◌, flatten}
use Prim.Native.Nat.{ℕ, zero, suc, ◌*◌, ◌≤◌, ◌<◌}
use native.Mathlib.Omega.{arith}
use lib.ListN.{length, take, drop, replicate, length-append, length-replicate}
use lib.Seq.{take-append_seam}
use borrow.Author.Tests.{lt-leb}
use Rattle.lists.proofs.Each.{all_same}
use Rattle.bits.specs.Bits.{Bytes}
use Rattle.codes.specs.Parse.{rest}
use Rattle.calls.specs.Limits.{is_number, Legal, max_number, max_count}
use Rattle.calls.specs.Reading.{contents, decode, check_finished}
use Rattle.calls.proofs.Checks.{number_is, is-number, positive}
use Rattle.calls.specs.declared.Refusal.TheVariants.{BadStoppers}
use Rattle.calls.proofs.Decoding.{decode-accepts, called-returns}
use Rattle.calls.proofs.Writing.{Writable}
use Rattle.dense.specs.Code.{first, value, number, stem, codeword}
use Rattle.dense.specs.Encoding.{encoding, parse, numbers}
use Rattle.dense.specs.Limits.{is_stoppers, Stoppers, continuers}
use Rattle.dense.proofs.Limits.{stoppers-is, is-stoppers, bytes_below}
use Rattle.dense.proofs.Numbers.{number-positive, codeword-good, codeword-only, number_digits, number-length, shorter_first}
use Rattle.dense.proofs.Parse.{parse-is}
use Rattle.dense.proofs.Rows.{parse-only, encoding-parse, encoding-read, numbers-bytes, rows_apart, rows_begin, numbers-positive}
use Rattle.dense.proofs.Long.{codeword-long, rows_fit}
use Rattle.dense_encoder.specs.Writing.{write_dense, write_dense_into}
use Rattle.dense_encoder.proofs.Writing.{writing, write-is, write-accepts, write-into}
use Rattle.dense_decoder.specs.Reading.{dense, read_dense, read_dense_into}
use Rattle.dense_decoder.proofs.Reading.{decode_is, decoded-rest, read_is, read-row}
use Rattle.demands.specs.Readers.{ReturnsParse}
use Rattle.demands.specs.Dense.{DenseCode, DenseRoundTrip, DenseLengths, DenseExamples, DenseDemand}
use Rattle.std.specs.Prelude.{Ok}

dense-code : (s c : ℕ) → 1 ≤ s → 1 ≤ c → DenseCode s c
dense-code s c ps pc =
    record {
      number_of_codeword = λ w k. number-positive s c w;
      codeword_of_number = codeword-good s c ps pc;
      no_other_codeword = codeword-only s c ps pc;
      number_digits = number_digits s c;
      shorter_first = shorter_first s c;
      numbers_of_length = number-length s c;
      has_parse = parse-is s c;
      no_other_parse = parse-only s c ps pc;
      rows_apart = rows_apart s c ps pc;
      rows_begin = rows_begin s c ps pc;
      parse_of_row = encoding-parse s c ps pc;
      row_of_parse = numbers-bytes s c ps pc;
    }

-- ## The round trip

module _ (s : ℕ) where
  abbrev c : ℕ
  c = continuers s

  -- reading what was written
  decode-encoding : (row : List ℕ) → Stoppers s → length row ≤ max_count → Legal max_number row → decode (dense s) max_number (encoding s c row) ≡ Ok row
  decode-encoding row o l a =
      let pc : 1 ≤ c = omega (arith, o) in
      let p = positive max_number row a in
      let none : length (rest (parse s (encoding s c row))) < 1 = omega (arith, ap (λ x. length (rest x)) (encoding-parse s c o.0 pc row p)) in
      decode-accepts (dense s) max_number (encoding s c row) row
      (record {
        bytes = rows_fit s row o l a;
        is = sym (encoding-read s c o.0 pc row p);
        legal = a;
        long = l;
        finished = lt-leb 1 (length (rest (parse s (encoding s c row)))) none;
      })

  written : (row before : List ℕ) (bytes : ℕ) → write_dense s row (length before) ≡ Ok bytes → take bytes (write_dense_into s row before) ≡ encoding s c row
  written row before bytes e =
      let i = write-is s row (length before) bytes e in
      ap₂ take i.1 (write-into s row before i.0) ∙ take-append_seam (encoding s c row) _

  written_read : (row before out : List ℕ) (bytes : ℕ) → write_dense s row (length before) ≡ Ok bytes → length row ≤ length out
      → let b = take bytes (write_dense_into s row before) in
      (read_dense s b (length out) ≡ Ok (length row)) × (read_dense_into s b out ≡ row ++ drop (length row) out)
  written_read row before out bytes e l =
      let w = (write-is s row (length before) bytes e).0 in
      let o = stoppers-is s w.asked in
      rw (written row before bytes e) (read-row s (encoding s c row) out o row (decode-encoding row o w.count w.legal) l)

  -- writing what was read
  decoded-encoding : (b row : List ℕ) → Stoppers s → Bytes b → decode (dense s) max_number b ≡ Ok row → b ≡ encoding s c row
  decoded-encoding b row o y e =
      let d = decode_is s max_number b row e in
      let pc : 1 ≤ c = omega (arith, o) in
      rw d.is (sym (numbers-bytes s c o.0 pc b (bytes_below s b o.1 y) (decoded-rest s max_number b row d)))

  decoded-written : (b row before : List ℕ) → Stoppers s → Bytes b → decode (dense s) max_number b ≡ Ok row → length b ≤ length before
      → (write_dense s row (length before) ≡ Ok (length b)) × (write_dense_into s row before ≡ b ++ drop (length b) before)
  decoded-written b row before o y e l =
      let d = decode_is s max_number b row e in
      let same : b ≡ encoding s c row = decoded-encoding b row o y e in
      let w : Writable (writing s row) (length before) = record { asked = is-stoppers s o; count = d.long; legal = d.legal; fits = omega (arith, ap length same) } in
      rw same (write-accepts s row (length before) w, write-into s row before w)

  read_written : (b out before : List ℕ) (count : ℕ) → Bytes b → read_dense s b (length out) ≡ Ok count → length b ≤ length before
      → let row = take count (read_dense_into s b out) in
      (write_dense s row (length before) ≡ Ok (length b)) × (write_dense_into s row before ≡ b ++ drop (length b) before)
  read_written b out before count y e l =
      let i = read_is s b (length out) count e in
      let row = i.1.0 in
      let back : take count (read_dense_into s b out) ≡ row =
      ap₂ take i.1.2 (read-row s b out i.0 row i.1.1 i.1.3).1 ∙ take-append_seam row _ in
      rw back (decoded-written b row before i.0 y i.1.1 l)

  returns_parse : ReturnsParse (numbers s c) (read_dense s) (read_dense_into s)
  unfolding read_dense read_dense_into
  returns_parse b = called-returns BadStoppers (is_stoppers s) (dense s) max_number b (numbers-positive s c b)

  written_apart : (row other before after : List ℕ) (bytes : ℕ) → write_dense s row (length before) ≡ Ok bytes → write_dense s other (length after) ≡ Ok bytes
      → take bytes (write_dense_into s row before) ≡ take bytes (write_dense_into s other after) → row ≡ other
  written_apart row other before after bytes e f q =
      let w = (write-is s row (length before) bytes e).0 in
      let v = (write-is s other (length after) bytes f).0 in
      let o = stoppers-is s w.asked in
      let pc : 1 ≤ c = omega (arith, o) in
      rows_apart s c o.0 pc row other (positive max_number row w.legal) (positive max_number other v.legal)
      (sym (written row before bytes e) ∙ q ∙ written other after bytes f)

  dense-round-trip : DenseRoundTrip s
  dense-round-trip = record { written_read = written_read; read_written = read_written; returns_parse = returns_parse; written_apart = written_apart }

-- ## Lengths

reached : length (codeword 254 2 max_number) ≡ 25
unfolding codeword stem
reached = refl

full-bytes : (k : ℕ) → length (encoding 254 2 (replicate k max_number)) ≡ 25 * k
unfolding encoding flatten
full-bytes zero = refl
full-bytes (suc k) = omega (arith, length-append (codeword 254 2 max_number) (encoding 254 2 (replicate k max_number)), reached, full-bytes k)

full-legal : Legal max_number (replicate max_count max_number)
full-legal = all_same (λ n. is_number max_number n ≡ true) max_count max_number (is-number max_number max_number (omega arith) (omega arith))

full-count : length (replicate max_count max_number) ≡ max_count
full-count = length-replicate max_count max_number

stoppers-254 : Stoppers 254
stoppers-254 = (omega arith, omega arith)

full_written : (room : ℕ) → 102400 ≤ room → write_dense 254 (replicate max_count max_number) room ≡ Ok 102400
full_written room h =
    write-accepts 254 (replicate max_count max_number) room
    (record { asked = is-stoppers 254 stoppers-254; count = omega (arith, full-count); legal = full-legal; fits = omega (arith, full-bytes max_count) })
    ∙ ap Ok (full-bytes max_count)

full_read : (room : ℕ) → max_count ≤ room → read_dense 254 (encoding 254 2 (replicate max_count max_number)) room ≡ Ok max_count
full_read room h =
    let row : List ℕ = replicate max_count max_number in
    let zeros : List ℕ = replicate room 0 in
    let out : length zeros ≡ room = length-replicate room 0 in
    let r = read-row 254 (encoding 254 2 row) zeros stoppers-254 row (decode-encoding 254 row stoppers-254 (omega (arith, full-count)) full-legal) (omega (arith, full-count, out)) in
    ap (read_dense 254 (encoding 254 2 row)) (sym out) ∙ r.0 ∙ ap Ok full-count

dense-lengths : DenseLengths
dense-lengths =
    record {
      longest = λ s n o l. let p = number_is max_number n l in codeword-long s n o.0 o.1 p.0 p.1;
      reached = reached;
      full_written = full_written;
      full_read = full_read;
    }

-- ## Examples

dense-examples : DenseExamples
unfolding codeword stem number first value parse numbers write_dense read_dense decode contents check_finished is_stoppers
dense-examples =
    record {
      paper = refl;
      most = refl;
      fewest = refl;
      no_stoppers = (refl, refl);
      too_many_stoppers = (refl, refl);
      empty = refl;
      open_short = refl;
      open_long = refl;
      long = refl;
    }

pub dense-demand : DenseDemand
dense-demand = record { code = dense-code; round_trip = dense-round-trip; lengths = dense-lengths; examples = dense-examples }
