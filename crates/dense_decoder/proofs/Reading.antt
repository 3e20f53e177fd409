-- When bytes of the dense code are read and what then is known of them; the answers of reading.
use mathlib.Core.Path.{◌≡◌, refl}
use mathlib.Core.Bool.{false}
use mathlib.Core.List.{List, [], ◌∷◌, ◌++◌}
use Prim.Native.Nat.{ℕ, ◌≤◌, ◌<◌}
use native.Mathlib.Omega.{arith}
use lib.ListN.{length, take, drop}
use borrow.Author.Tests.{leb-false}
use Rattle.codes.specs.Parse.{rest}
use Rattle.calls.specs.declared.Refusal.TheVariants.{BadStoppers}
use Rattle.calls.specs.declared.Refusal.{Refusal}
use Rattle.calls.specs.Calls.{Outcome, buffer}
use Rattle.calls.specs.Limits.{max_number}
use Rattle.calls.specs.Reading.{decode, counted}
use Rattle.calls.specs.Leaves.{Scanned}
use Rattle.calls.proofs.Decoding.{Decoded, called_is, called-refused, called-row, called-delivered, called-scan}
use Rattle.calls.proofs.Decoding as calls
use Rattle.dense.specs.Encoding.{parse}
use Rattle.dense.specs.Limits.{is_stoppers, Stoppers, continuers}
use Rattle.dense.proofs.Limits.{stoppers-is, is-stoppers}
use Rattle.dense.proofs.Rows.{numbers-positive}
use Rattle.dense_decoder.specs.Reading.{dense, read_dense, read_dense_into, ReadPromise}
use Rattle.std.specs.Prelude.{Ok, Err}

module _ (s limit : ℕ) (b row : List ℕ) where
  pub decode_is : decode (dense s) limit b ≡ Ok row → Decoded (dense s) limit b row
  decode_is e = calls.decode_is (dense s) limit b row (numbers-positive s (continuers s) b) e

  -- nothing is left
  pub decoded-rest : Decoded (dense s) limit b row → rest (parse s b) ≡ []
  decoded-rest d = none (rest (parse s b)) (leb-false 1 (length (rest (parse s b))) d.finished)
    where
      none : (l : List ℕ) → length l < 1 → l ≡ []
      none [] h = refl
      none (x ∷ l) h = absurd (omega arith)

-- ## The answers

pub read_is : (s : ℕ) (b : List ℕ) (room n : ℕ) → read_dense s b room ≡ Ok n
    → Stoppers s × ((row : List ℕ) × (decode (dense s) max_number b ≡ Ok row) × (n ≡ length row) × (length row ≤ room))
unfolding read_dense
read_is s b room n e = let x = called_is BadStoppers (is_stoppers s) (dense s) max_number b room n e in (stoppers-is s x.0, x.1)

module _ (s : ℕ) (b before : List ℕ) where
  pub read-row : Stoppers s → (row : List ℕ) → decode (dense s) max_number b ≡ Ok row → length row ≤ length before
      → (read_dense s b (length before) ≡ Ok (length row)) × (read_dense_into s b before ≡ row ++ drop (length row) before)
  unfolding read_dense read_dense_into
  read-row o = called-row BadStoppers (is_stoppers s) (dense s) max_number b before (is-stoppers s o) (numbers-positive s (continuers s) b)

  pub read-stoppers : is_stoppers s ≡ false → (Err BadStoppers ≡ read_dense s b (length before)) × (before ≡ read_dense_into s b before)
  unfolding read_dense read_dense_into
  read-stoppers = called-refused BadStoppers (is_stoppers s) (dense s) max_number b before

  pub delivered-read : Stoppers s → (list after : List ℕ) (n : ℕ) (a : Outcome ℕ) → Scanned (decode (dense s) max_number b) (Ok n) list
      → a ≡ counted (length before) (take n list) → after ≡ buffer a (take n list) before → ReadPromise s b before a after
  unfolding read_dense read_dense_into
  delivered-read o = called-delivered BadStoppers (is_stoppers s) (dense s) max_number b before (is-stoppers s o) (numbers-positive s (continuers s) b)

  pub refused-read : Stoppers s → (list : List ℕ) (r : Refusal) → Scanned (decode (dense s) max_number b) (Err r) list → ReadPromise s b before (Err r) before
  unfolding read_dense read_dense_into
  refused-read o = called-scan BadStoppers (is_stoppers s) (dense s) max_number b before (is-stoppers s o) (numbers-positive s (continuers s) b)
