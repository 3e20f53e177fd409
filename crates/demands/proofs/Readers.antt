-- The two readers agree, and return the numbers of the parse.
use mathlib.Core.Path.{◌≡◌, refl, sym, ap, ◌∙◌}
use mathlib.Core.Bool.{Bool}
use mathlib.Core.List.{List, ◌++◌}
use Prim.Native.Nat.{ℕ, ◌*◌, ◌/◌}
use native.Mathlib.Omega.{arith}
use native.Mathlib.Decide.{dec_le}
use lib.Dec.{ltb}
use lib.ListN.{length, drop}
use borrow.Author.Tests.{lt-ltb, le-ltb}
use Rattle.bits.specs.Bits.{unpack}
use Rattle.fibonacci.specs.Encoding.{numbers}
use Rattle.calls.specs.declared.Refusal.TheVariants.{BadOrder, NoRoom}
use Rattle.calls.specs.Calls.{check}
use Rattle.calls.specs.Limits.{is_order, max_number}
use Rattle.calls.specs.Reading.{decode}
use Rattle.calls.proofs.Checks.{then_same}
use Rattle.calls.proofs.Decoding.{called-returns}
use Rattle.reading.proofs.Checking.{numbers-positive}
use Rattle.reading.specs.Reading.{fibonacci, read, read_into}
use Rattle.reading.proofs.Decoding.{decode_is, read_is}
use Rattle.table_decoder.specs.Reading.{read_table, read_table_into, row_bytes, read_bytes, read_bytes_into}
use Rattle.table_decoder.proofs.Answering.{order-3, table-decode, table-read, table-into, bytes-long}
use Rattle.demands.specs.Readers.{ReturnsParse, TwoReaders}
use Rattle.std.specs.Prelude.{Ok}

-- ## The numbers of the parse

read-parse : (m : ℕ) → ReturnsParse (λ s. numbers m (unpack s)) (read m) (read_into m)
unfolding read read_into
read-parse m s = called-returns BadOrder (is_order m) (fibonacci m) max_number s (numbers-positive m (unpack s))

table-parse : ReturnsParse (λ s. numbers 3 (unpack s)) read_table read_table_into
table-parse s before n e =
    let p = read-parse 3 s before n (sym (table-read s (length before)) ∙ e) in
    (p.0, table-into s before ∙ p.1)

-- ## Into bytes

-- four bytes for each of n numbers are there exactly where n numbers fit a fourth of the bytes
room-bytes : (room n : ℕ) → ltb room (4 * n) ≡ ltb (room / 4) n
room-bytes room n =
    elim (dec_le (4 * n) room) [
      | yes h ↦ le-ltb room (4 * n) h ∙ sym (le-ltb (room / 4) n (omega arith))
      | no h ↦ lt-ltb room (4 * n) (omega arith) ∙ sym (lt-ltb (room / 4) n (omega arith))
    ]

bytes_read : (s : List ℕ) (room : ℕ) → read_bytes s room ≡ read 3 s (room / 4)
unfolding read_bytes read
bytes_read s room =
    rw (order-3, table-decode s)
    (then_same (decode (fibonacci 3) max_number s) _ _ (λ row. ap (λ (t : Bool). check NoRoom t (Ok (length row))) (room-bytes room (length row))))

bytes-written : (s before : List ℕ) (count : ℕ) → read_bytes s (length before) ≡ Ok count
    → (count ≡ length (numbers 3 (unpack s))) × (read_bytes_into s before ≡ row_bytes (numbers 3 (unpack s)) ++ drop (4 * count) before)
unfolding read_bytes_into
bytes-written s before count e =
    let i = read_is 3 s (length before / 4) count (sym (bytes_read s (length before)) ∙ e) in
    let n : count ≡ length (numbers 3 (unpack s)) = i.1.2 ∙ ap length (decode_is 3 max_number s i.1.0 i.1.1).is in
    (n, rw (e, bytes-long (numbers 3 (unpack s)), ← n) refl)

pub two-readers : TwoReaders
two-readers =
    record {
      agree = table-read;
      agree_output = table-into;
      agree_bytes = bytes_read;
      returns_parse = read-parse;
      returns_parse_table = table-parse;
      returns_parse_bytes = bytes-written;
    }
