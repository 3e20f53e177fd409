-- Writing and reading agree.
use mathlib.Core.Path.{◌≡◌, refl, sym, ap, ap₂, ◌∙◌}
use mathlib.Core.Bool.{Bool, false}
use mathlib.Core.List.{List, ◌++◌}
use Prim.Native.Nat.{ℕ, ◌≤◌}
use native.Mathlib.Omega.{arith}
use lib.ListN.{length, take, drop, replicate, length-append, length-replicate}
use lib.Seq.{take-append_seam}
use Rattle.bits.specs.Bits.{Bytes, unpack, padding}
use Rattle.bits.proofs.Bytes.{unpack-length}
use Rattle.bits.proofs.Packing.{unpack-pack, padding-below, pack-length, pack-bytes, unpack-apart}
use Rattle.bits.proofs.Count.{zeros-none}
use Rattle.codes.specs.Parse.{rest}
use Rattle.fibonacci.specs.Encoding.{row_bits, encoding, parse}
use Rattle.calls.proofs.Checks.{order_is, is-order, positive}
use Rattle.calls.specs.Limits.{Order, Legal, max_number, max_count}
use Rattle.calls.specs.Reading.{decode}
use Rattle.fibonacci.proofs.Rows.{encoding-parse, encoding-read, bits-few}
use Rattle.reading.specs.Reading.{fibonacci, read, read_into}
use Rattle.calls.proofs.Decoding.{decode-accepts}
use Rattle.calls.proofs.Writing.{Writable}
use Rattle.reading.proofs.Checking.{rest-good}
use Rattle.reading.proofs.Decoding.{decode_is, decoded-rest, decoded-bits, read_is, read-row}
use Rattle.headers.specs.declared.Header.{Header}
use Rattle.headers.specs.Headers.{header_of}
use Rattle.encoder.specs.Writing.{write, write_into}
use Rattle.encoder.proofs.Writing.{writing, write-is, write-accepts}
use Rattle.demands.specs.RoundTrip.{RoundTrip}
use Rattle.std.specs.Prelude.{Ok}

-- ## Reading what was written

pub decode-encoding : (m : ℕ) (row : List ℕ) → Order m → length row ≤ max_count → Legal max_number row → decode (fibonacci m) max_number (encoding m row) ≡ Ok row
unfolding encoding
decode-encoding m row o c a =
    let parse-is = encoding-parse m row (omega arith) (positive max_number row a) in
    let rest-is : rest (parse m (unpack (encoding m row))) ≡ replicate (padding (length (row_bits m row))) false = ap rest parse-is in
    decode-accepts (fibonacci m) max_number (encoding m row) row
    (record {
      bytes = omega (arith, pack-length (row_bits m row), bits-few m row o a);
      is = sym (encoding-read m row (omega arith) (positive max_number row a));
      legal = a;
      long = c;
      finished =
          rw rest-is
          (rest-good (replicate (padding (length (row_bits m row))) false) (omega (arith, length-replicate (padding (length (row_bits m row))) false, padding-below (length (row_bits m row)))) (zeros-none (padding (length (row_bits m row)))));
    })

-- ## Writing what was read

pub decoded-encoding : (m : ℕ) (s row : List ℕ) → Order m → Bytes s → decode (fibonacci m) max_number s ≡ Ok row → s ≡ encoding m row
unfolding encoding padding
decoded-encoding m s row o b e =
    let d = decode_is m max_number s row e in
    let z : ℕ = length (rest (parse m (unpack s))) in
    let whole : unpack s ≡ row_bits m row ++ replicate z false = decoded-bits m max_number s row (omega (arith, o)) d in
    let fill : z ≡ padding (length (row_bits m row)) =
    omega (
      arith,
      (decoded-rest m max_number s row d).0,
      ap length whole,
      length-append (row_bits m row) (replicate z false),
      length-replicate {A = Bool} z false,
      unpack-length s,
    ) in
    unpack-apart s (encoding m row) b (pack-bytes (row_bits m row)) (whole ∙ ap (λ (k : ℕ). row_bits m row ++ replicate k false) fill ∙ sym (unpack-pack (row_bits m row)))

-- ## All of it

-- an encoding, and after it what stood in the buffer
abbrev pub front : ℕ → List ℕ → List ℕ → List ℕ
front m row before = encoding m row ++ drop (length (encoding m row)) before

pub write-into : (m : ℕ) (row before : List ℕ) → Writable (writing m row) (length before) → write_into m row before ≡ front m row before
unfolding write_into
write-into m row before w = rw (write-accepts m row (length before) w) refl

written_read : (m : ℕ) (row before out : List ℕ) (bytes : ℕ) (h : Header) → write m row (length before) ≡ Ok (bytes, h) → length row ≤ length out
    → let s = take bytes (write_into m row before) in
    (read m s (length out) ≡ Ok (length row)) × (read_into m s out ≡ row ++ drop (length row) out)
written_read m row before out bytes h e l =
    let i = write-is m row (length before) bytes h e in
    let w = i.0 in
    let s : take bytes (write_into m row before) ≡ encoding m row =
    ap₂ take i.1 (write-into m row before w) ∙ take-append_seam (encoding m row) _ in
    let o = order_is m w.asked in
    let r = read-row m (encoding m row) out o row (decode-encoding m row o w.count w.legal) l in
    rw s r

decoded-written : (m : ℕ) (s row before : List ℕ) → Order m → Bytes s → decode (fibonacci m) max_number s ≡ Ok row → length s ≤ length before
    → (write m row (length before) ≡ Ok (length s, header_of m row)) × (write_into m row before ≡ s ++ drop (length s) before)
decoded-written m s row before o b e l =
    let d = decode_is m max_number s row e in
    let same : s ≡ encoding m row = decoded-encoding m s row o b e in
    let w : Writable (writing m row) (length before) =
    record { asked = is-order m o; count = d.long; legal = d.legal; fits = omega (arith, ap length same) } in
    rw same (write-accepts m row (length before) w, write-into m row before w)

read_written : (m : ℕ) (s out before : List ℕ) (n : ℕ) → Bytes s → read m s (length out) ≡ Ok n → length s ≤ length before
    → let row = take n (read_into m s out) in
    (write m row (length before) ≡ Ok (length s, header_of m row)) × (write_into m row before ≡ s ++ drop (length s) before)
read_written m s out before n b e l =
    let i = read_is m s (length out) n e in
    let row = i.1.0 in
    let back : take n (read_into m s out) ≡ row =
    ap₂ take i.1.2 (read-row m s out i.0 row i.1.1 i.1.3).1 ∙ take-append_seam row _ in
    rw back (decoded-written m s row before i.0 b i.1.1 l)

pub round_trip : (m : ℕ) → RoundTrip m
round_trip m = record { written_read = written_read m; read_written = read_written m }
