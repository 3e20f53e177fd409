-- The answers of the table decoder, by what its scan found.
use mathlib.Core.Path.{◌≡◌, refl, sym, ◌∙◌}
use mathlib.Core.Bool.{true}
use mathlib.Core.List.{List, [], ◌∷◌, ◌++◌, append_assoc, flatten}
use Prim.Native.Nat.{ℕ, ◌+◌, ◌-◌, ◌*◌, ◌≤◌, ◌<◌}
use native.Mathlib.Omega.{arith}
use lib.ListN.{length, get_or, take, drop, length-take}
use lib.Seq.{take_at, drop_at, drop-drop}
use Rattle.std.proofs.lemmas.List.{take_more}
use borrow.Rule.Slice.PartMut.{put_mid}
use Rattle.lists.proofs.Lists.{flatten-map-append}
use Rattle.bits.specs.Bits.{unpack}
use Rattle.fibonacci.specs.Encoding.{numbers}
use Rattle.calls.specs.declared.Refusal.{Refusal}
use Rattle.calls.specs.declared.Refusal.TheVariants.{NoRoom}
use Rattle.calls.specs.Calls.{Outcome, buffer}
use Rattle.calls.specs.Limits.{is_order, max_number}
use Rattle.calls.specs.Reading.{contents, decode, counted}
use Rattle.calls.specs.Leaves.{Scanned}
use Rattle.calls.proofs.Decoding.{stored_row, scan-refused}
use Rattle.reading.specs.Reading.{fibonacci, read, read_into, ReadPromise}
use Rattle.reading.proofs.Decoding.{decode_is, delivered-read, refused-read}
use Rattle.table_decoder.specs.Reading.{decode_table, read_table, read_table_into, ReadTablePromise, number_bytes, row_bytes, read_bytes, read_bytes_into, ReadBytesPromise}
use Rattle.std.specs.Prelude.{Ok, Err}
use borrow.Author.Tests.{lt-ltb, le-ltb}

-- ## Numbers as bytes

pub bytes-long : (row : List ℕ) → length (row_bytes row) ≡ 4 * length row
unfolding row_bytes flatten
bytes-long [] = refl
bytes-long (n ∷ row) = omega (arith, bytes-long row)

bytes-snoc : (row : List ℕ) (n : ℕ) → row_bytes (row ++ (n ∷ [])) ≡ row_bytes row ++ number_bytes n
unfolding row_bytes flatten
bytes-snoc row n = flatten-map-append number_bytes row (n ∷ [])

-- a loop that puts a row as bytes
pub bytes_none : (out : List ℕ) → row_bytes [] ++ out ≡ out
unfolding row_bytes flatten
bytes_none out = refl

pub bytes_more : (row out : List ℕ) (i : ℕ) → i < length row → 4 * length row ≤ length out
    → put_mid (4 * i) (4 * i + 4 - 4 * i) (row_bytes (take i row) ++ drop (4 * i) out) (number_bytes (get_or row i 0)) ≡ row_bytes (take (i + 1) row) ++ drop (4 * (i + 1)) out
bytes_more row out i h k =
    let long : length (row_bytes (take i row)) ≡ 4 * i = bytes-long (take i row) ∙ omega (arith, length-take i row) in
    let four : 4 * i + 4 - 4 * i ≡ 4 = omega arith in
    let next : 4 * i + 4 ≡ 4 * (i + 1) = omega arith in
    rw (four, take_at _ (drop (4 * i) out) _ long, drop_at _ (drop (4 * i) out) _ long, drop-drop 4 (4 * i) out, next, take_more row i 0 h, bytes-snoc (take i row) (get_or row i 0))
    (sym (append_assoc (row_bytes (take i row)) _ _))

-- ## The chain of checks is that of reading with order 3

-- check 1 passes
pub order-3 : is_order 3 ≡ true
unfolding is_order
order-3 = refl

pub table-decode : (s : List ℕ) → decode_table s ≡ decode (fibonacci 3) max_number s
unfolding decode_table decode contents
table-decode s = refl

pub table-read : (s : List ℕ) (room : ℕ) → read_table s room ≡ read 3 s room
unfolding read_table read
table-read s room = rw (order-3, table-decode s)

pub table-into : (s before : List ℕ) → read_table_into s before ≡ read_into 3 s before
unfolding read_table_into read_into
table-into s before = rw (table-read s (length before)) refl

pub table-promise : (s before : List ℕ) (a : Outcome ℕ) (after : List ℕ) → ReadPromise 3 s before a after → ReadTablePromise s before a after
table-promise s before a after p = rw (table-read s (length before), table-into s before) p

-- ## What was scanned

module _ (s list before : List ℕ) where
  -- a row
  module _ (n : ℕ) (found : Scanned (decode (fibonacci 3) max_number s) (Ok n) list) where
    -- its numbers, delivered
    pub table-row : (a : Outcome ℕ) (after : List ℕ) → a ≡ counted (length before) (take n list) → after ≡ buffer a (take n list) before → ReadTablePromise s before a after
    table-row a after w x = table-promise s before a after (delivered-read 3 s before list after n a order-3 found w x)

    -- their bytes
    pub bytes-room : length before < 4 * n → ReadBytesPromise s before (Err NoRoom) before
    unfolding read_bytes read_bytes_into
    bytes-room h =
        let d = stored_row _ list n found in
        rw (table-decode s, d.0, ← d.1, lt-ltb (length before) (4 * n) h) (refl, refl)

    pub bytes-row : 4 * n ≤ length before → ReadBytesPromise s before (Ok n) (row_bytes (take n list) ++ drop (4 * length (take n list)) before)
    unfolding read_bytes read_bytes_into
    bytes-row h =
        let d = stored_row _ list n found in
        let same : take n list ≡ numbers 3 (unpack s) = (decode_is 3 max_number s (take n list) d.0).is in
        rw (table-decode s, d.0, ← d.1, le-ltb (length before) (4 * n) h, ← same, bytes-long (take n list), ← d.1) (refl, refl)

  -- a refusal
  module _ (r : Refusal) (found : Scanned (decode (fibonacci 3) max_number s) (Err r) list) where
    pub table-refused : ReadTablePromise s before (Err r) before
    table-refused = table-promise s before (Err r) before (refused-read 3 s before list r order-3 found)

    pub bytes-refused : ReadBytesPromise s before (Err r) before
    unfolding read_bytes read_bytes_into
    bytes-refused = rw (table-decode s, scan-refused _ list r found) (refl, refl)
