-- When an encoding is read and what then is known of it; the answers of a reader.
use mathlib.Core.Path.{◌≡◌, sym, ap, ◌∙◌}
use mathlib.Core.Bool.{Bool, true, false}
use mathlib.Core.List.{List, ◌++◌}
use Prim.Native.Nat.{ℕ, ◌≤◌, ◌<◌}
use native.Mathlib.Omega.{arith}
use lib.Dec.{leb}
use lib.ListN.{length, take, drop, replicate}
use borrow.Author.Tests.{leb-false}
use Rattle.bits.specs.Bits.{unpack, count}
use Rattle.bits.proofs.Count.{none-zeros}
use Rattle.codes.specs.Parse.{rest}
use Rattle.fibonacci.specs.Encoding.{row_bits, parse}
use Rattle.fibonacci.proofs.Rows.{numbers-bits}
use Rattle.calls.specs.declared.Refusal.TheVariants.{BadOrder}
use Rattle.calls.specs.Calls.{Outcome, buffer}
use Rattle.calls.specs.Limits.{is_order, Order, max_number}
use Rattle.calls.specs.declared.Refusal.{Refusal}
use Rattle.calls.specs.Reading.{decode, counted}
use Rattle.calls.specs.Leaves.{Scanned}
use Rattle.calls.proofs.Checks.{neither, order_is, is-order}
use Rattle.calls.proofs.Decoding.{Decoded, called_is, called-refused, called-row, called-delivered, called-scan}
use Rattle.calls.proofs.Decoding as calls
use Rattle.reading.specs.Reading.{fibonacci, read, read_into, ReadPromise}
use Rattle.reading.proofs.Checking.{numbers-positive}
use Rattle.std.specs.Prelude.{Ok, Err}

-- ## What is known of an encoding that is read

module _ (m limit : ℕ) (s row : List ℕ) where
  pub decode_is : decode (fibonacci m) limit s ≡ Ok row → Decoded (fibonacci m) limit s row
  decode_is e = calls.decode_is (fibonacci m) limit s row (numbers-positive m (unpack s)) e

  -- the rest is padding
  pub decoded-rest : Decoded (fibonacci m) limit s row → let r = rest (parse m (unpack s)) in (length r < 8) × (count true r ≡ 0)
  decoded-rest d =
      let r : List Bool = rest (parse m (unpack s)) in
      let good = neither (leb 8 (length r)) (leb 1 (count true r)) d.finished in
      (leb-false 8 (length r) good.0, omega (arith, leb-false 1 (count true r) good.1))

  -- .. so the bits are those of the row, and zeros
  pub decoded-bits : 1 ≤ m → Decoded (fibonacci m) limit s row → unpack s ≡ row_bits m row ++ replicate (length (rest (parse m (unpack s)))) false
  decoded-bits l d =
      let r : List Bool = rest (parse m (unpack s)) in
      let whole : row_bits m row ++ r ≡ unpack s = rw d.is (numbers-bits m (unpack s) l) in
      sym whole ∙ ap (λ (z : List Bool). row_bits m row ++ z) (none-zeros r (decoded-rest d).1)

-- ## The answers

pub read_is : (m : ℕ) (s : List ℕ) (room n : ℕ) → read m s room ≡ Ok n
    → Order m × ((row : List ℕ) × (decode (fibonacci m) max_number s ≡ Ok row) × (n ≡ length row) × (length row ≤ room))
unfolding read
read_is m s room n e = let x = called_is BadOrder (is_order m) (fibonacci m) max_number s room n e in (order_is m x.0, x.1)

module _ (m : ℕ) (s before : List ℕ) where
  pub read-row : Order m → (row : List ℕ) → decode (fibonacci m) max_number s ≡ Ok row → length row ≤ length before
      → (read m s (length before) ≡ Ok (length row)) × (read_into m s before ≡ row ++ drop (length row) before)
  unfolding read read_into
  read-row o = called-row BadOrder (is_order m) (fibonacci m) max_number s before (is-order m o) (numbers-positive m (unpack s))

  pub read-order : is_order m ≡ false → (Err BadOrder ≡ read m s (length before)) × (before ≡ read_into m s before)
  unfolding read read_into
  read-order = called-refused BadOrder (is_order m) (fibonacci m) max_number s before

  -- a scan's row, delivered
  pub delivered-read : (list after : List ℕ) (n : ℕ) (a : Outcome ℕ) → is_order m ≡ true → Scanned (decode (fibonacci m) max_number s) (Ok n) list
      → a ≡ counted (length before) (take n list) → after ≡ buffer a (take n list) before → ReadPromise m s before a after
  unfolding read read_into
  delivered-read list after n a o =
      called-delivered BadOrder (is_order m) (fibonacci m) max_number s before o (numbers-positive m (unpack s)) list after n a

  -- .. and its refusal
  pub refused-read : (list : List ℕ) (r : Refusal) → is_order m ≡ true → Scanned (decode (fibonacci m) max_number s) (Err r) list
      → ReadPromise m s before (Err r) before
  unfolding read read_into
  refused-read list r o = called-scan BadOrder (is_order m) (fibonacci m) max_number s before o (numbers-positive m (unpack s)) list r
