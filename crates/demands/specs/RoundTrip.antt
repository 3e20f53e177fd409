-- What writing and reading promise of each other (demand 2), for every order and every input.
use Rattle.std.specs.Prelude.{◌≡◌, List, ◌++◌, ℕ, ◌≤◌, length, take, drop, Ok}
use Rattle.bits.specs.Bits.{Bytes}
use Rattle.headers.specs.declared.Header.{Header}
use Rattle.headers.specs.Headers.{header_of}
use Rattle.reading.specs.Reading.{read, read_into}
use Rattle.encoder.specs.Writing.{write, write_into}

pub record RoundTrip (m : ℕ) : Type 0 where
  -- What writing gives is read, and the row comes back
  pub written_read : (row before out : List ℕ) (bytes : ℕ) (h : Header) → write m row (length before) ≡ Ok (bytes, h) → length row ≤ length out
      → let s = take bytes (write_into m row before) in
      (read m s (length out) ≡ Ok (length row)) × (read_into m s out ≡ row ++ drop (length row) out)
  -- What is read is what writing its row gives: nothing else is accepted
  pub read_written : (s out before : List ℕ) (count : ℕ) → Bytes s → read m s (length out) ≡ Ok count → length s ≤ length before
      → let row = take count (read_into m s out) in
      (write m row (length before) ≡ Ok (length s, header_of m row)) × (write_into m row before ≡ s ++ drop (length s) before)
