-- What writing answers and leaves behind, check by check.
use mathlib.Core.Path.{◌≡◌, sym, ap, ap₂, subst, ◌∙◌}
use mathlib.Core.Bool.{false}
use mathlib.Core.List.{List, ◌++◌}
use Prim.Native.Nat.{ℕ, ◌≤◌, ◌<◌}
use native.Mathlib.Omega.{arith}
use lib.ListN.{length, drop}
use lib.Seq.{take-append_seam}
use Rattle.bits.specs.Bits.{Bytes, byte_count, unpack}
use Rattle.bits.specs.Leaves.{put_at}
use Rattle.bits.proofs.Packing.{bytes_take, pack-bytes, unpack-apart}
use Rattle.bits.proofs.Put.{put-packed}
use Rattle.fibonacci.proofs.Rows.{encoding-length}
use Rattle.fibonacci.specs.Encoding.{row_bits, encoding}
use Rattle.calls.specs.declared.Refusal.{Refusal}
use Rattle.calls.specs.declared.Refusal.TheVariants.{BadOrder, BadNumber, TooManyNumbers, NoRoom}
use Rattle.calls.specs.Calls.{Outcome, buffer}
use Rattle.calls.specs.Limits.{is_order, Order, Legal, max_number, max_count, check_each}
use Rattle.calls.proofs.Checks.{is-order, accepted-one, each-accepted}
use Rattle.headers.specs.declared.Header.{Header}
use Rattle.headers.specs.Headers.{header_of}
use Rattle.calls.proofs.Writing.{Write, Writable, written_is, written-accepts, written-asked, written_count, written-number, written-room}
use Rattle.encoder.specs.Writing.{write, write_into}
use Rattle.std.specs.Prelude.{Ok, Err}

abbrev pub writing : ℕ → List ℕ → Write (ℕ × Header)
writing m row =
    record { good = is_order m; fault = BadOrder; limit = max_number; row = row; encoding = encoding m row; answer = (length (encoding m row), header_of m row) }

-- ## What is accepted

pub write-is : (m : ℕ) (row : List ℕ) (room bytes : ℕ) (h : Header) → write m row room ≡ Ok (bytes, h)
    → Writable (writing m row) room × (bytes ≡ length (encoding m row)) × (h ≡ header_of m row)
unfolding write
write-is m row room bytes h e =
    let x = written_is (writing m row) room (bytes, h) e in
    (x.0, ap (λ (p : ℕ × Header). p.0) x.1, ap (λ (p : ℕ × Header). p.1) x.1)

pub write-accepts : (m : ℕ) (row : List ℕ) (room : ℕ) → Writable (writing m row) room
    → write m row room ≡ Ok (length (encoding m row), header_of m row)
unfolding write
write-accepts m row room w = written-accepts (writing m row) room w

-- ## What is decided, check by check

module _ (m : ℕ) (row : List ℕ) (room : ℕ) (o : Order m) where
  pub write-count : max_count < length row → Err TooManyNumbers ≡ write m row room
  unfolding write
  write-count h = written_count (writing m row) room (is-order m o) h

  module _ (l : length row ≤ max_count) where
    pub write-number : (h : Header) (r : Refusal) → Err r ≡ check_each BadNumber max_number 0 row (Ok h) → Err r ≡ write m row room
    unfolding write
    write-number h r e = written-number (writing m row) room (is-order m o) l h r e

    -- the row has this header
    module _ (h : Header) (e : Ok h ≡ check_each BadNumber max_number 0 row (Ok (header_of m row))) where
      measured : Legal max_number row × (header_of m row ≡ h)
      measured = let x = each-accepted BadNumber max_number 0 row _ h (sym e) in (x.0, accepted-one x.1)

      bytes : length (encoding m row) ≡ byte_count h.bits
      bytes = encoding-length m row ∙ ap (λ (h : Header). byte_count h.bits) measured.1

      pub write-room : room < byte_count h.bits → Err NoRoom ≡ write m row room
      unfolding write
      write-room less = written-room (writing m row) room (is-order m o) l measured.0 (omega (arith, bytes))

      pub write_done : byte_count h.bits ≤ room → Ok (byte_count h.bits, h) ≡ write m row room
      write_done fits =
          let w : Writable (writing m row) room = record { asked = is-order m o; count = l; legal = measured.0; fits = omega (arith, bytes) } in
          let b = bytes in
          let g : header_of m row ≡ h = measured.1 in
          let same : ◌≡◌ {A = Outcome (ℕ × Header)} (Ok (length (encoding m row), header_of m row)) (Ok (byte_count h.bits, h)) = cc in
          sym (write-accepts m row room w ∙ same)

-- ## What is left behind

module _ (m : ℕ) (row before : List ℕ) where
  left : {outcome : Outcome (ℕ × Header)} → outcome ≡ write m row (length before) → buffer outcome (encoding m row) before ≡ write_into m row before
  unfolding write_into
  left e = ap (λ (o : Outcome (ℕ × Header)). buffer o (encoding m row) before) e

  pub write-order : is_order m ≡ false → (Err BadOrder ≡ write m row (length before)) × (before ≡ write_into m row before)
  unfolding write
  write-order o = let e : Err BadOrder ≡ write m row (length before) = written-asked (writing m row) (length before) o in (e, left e)

  pub write-refused : (r : Refusal) → Err r ≡ write m row (length before) → before ≡ write_into m row before
  write-refused r e = left e

  -- what the codeword writer asks, and what it leaves
  module _ (bytes : ℕ) (h : Header) (e : Ok (bytes, h) ≡ write m row (length before)) where
    pub write-asks : (length row ≤ max_count) × Legal max_number row × (bytes ≡ byte_count (length (row_bits m row))) × (bytes ≤ length before)
    write-asks =
        let x = write-is m row (length before) bytes h (sym e) in
        (x.0.count, x.0.legal, x.1 ∙ encoding-length m row, omega (arith, x.0.fits, x.1))

    pub write-put : (after : List ℕ) → Bytes before → Bytes after → unpack after ≡ put_at 0 (row_bits m row) (unpack before) → after ≡ write_into m row before
    unfolding encoding
    write-put after hb ha u = put-packed before after 0 (row_bits m row) (omega arith) hb ha u ∙ left e

    -- the same where the bits that are put are the encoding's, whatever stood there
    pub write-whole : (put : List ℕ) → Bytes (put ++ drop bytes before) → unpack put ≡ unpack (encoding m row)
        → put ++ drop bytes before ≡ write_into m row before
    unfolding encoding
    write-whole put b u =
        let held : Bytes put = subst Bytes (take-append_seam put (drop bytes before)) (bytes_take (length put) _ b) in
        let same : put ≡ encoding m row = unpack-apart put (encoding m row) held (pack-bytes (row_bits m row)) u in
        ap₂ (λ (w : List ℕ) (k : ℕ). w ++ drop k before) same (write-is m row (length before) bytes h (sym e)).1 ∙ left e
