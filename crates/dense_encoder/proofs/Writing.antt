-- What writing answers and leaves behind, check by check.
use mathlib.Core.Path.{◌≡◌, sym, ap, ap₂, ◌∙◌}
use mathlib.Core.Bool.{false}
use mathlib.Core.List.{List, ◌++◌}
use Prim.Native.Nat.{ℕ, ◌≤◌, ◌<◌}
use native.Mathlib.Omega.{arith}
use lib.ListN.{length, drop}
use Rattle.calls.specs.declared.Refusal.{Refusal}
use Rattle.calls.specs.declared.Refusal.TheVariants.{BadStoppers, BadNumber, TooManyNumbers, NoRoom}
use Rattle.calls.specs.Calls.{Outcome, buffer}
use Rattle.calls.specs.Limits.{max_number, max_count, check_each}
use Rattle.calls.proofs.Writing.{Write, Writable, written_is, written-accepts, written-asked, written_count, written-number, written-room}
use Rattle.dense.specs.Encoding.{encoding}
use Rattle.dense.specs.Limits.{is_stoppers, Stoppers, continuers}
use Rattle.dense.proofs.Limits.{stoppers-is, is-stoppers}
use Rattle.dense_encoder.specs.Writing.{write_dense, write_dense_into}
use Rattle.dense_encoder.specs.Leaves.{Checked, Fits}
use Rattle.std.specs.Prelude.{Ok, Err}

module _ (s : ℕ) (row : List ℕ) where
  abbrev bytes : List ℕ
  bytes = encoding s (continuers s) row

  abbrev pub writing : Write ℕ
  writing = record { good = is_stoppers s; fault = BadStoppers; limit = max_number; row = row; encoding = bytes; answer = length bytes }

  module _ (room : ℕ) where
    -- ## What is accepted

    pub write-is : (n : ℕ) → write_dense s row room ≡ Ok n → Writable writing room × (n ≡ length bytes)
    unfolding write_dense
    write-is n e = written_is writing room n e

    pub write-accepts : Writable writing room → write_dense s row room ≡ Ok (length bytes)
    unfolding write_dense
    write-accepts w = written-accepts writing room w

    -- ## What is decided, check by check

    module _ (ss : Stoppers s) where
      pub write-count : max_count < length row → Err TooManyNumbers ≡ write_dense s row room
      unfolding write_dense
      write-count h = written_count writing room (is-stoppers s ss) h

      pub write-number : (r : Refusal) → length row ≤ max_count → Err r ≡ check_each BadNumber max_number 0 row (Ok (tt {0})) → Err r ≡ write_dense s row room
      unfolding write_dense
      write-number r l e = written-number writing room (is-stoppers s ss) l (tt {0}) r e

      -- the row has passed its checks, and its encoding has so many bytes
      module _ (h : Checked row) (n : ℕ) (e : n ≡ length bytes) where
        pub write-room : room < n → Err NoRoom ≡ write_dense s row room
        unfolding write_dense
        write-room k = written-room writing room (is-stoppers s ss) h.0 h.1 (omega arith)

        pub write_done : n ≤ room → Ok n ≡ write_dense s row room
        write_done k =
            let w : Writable writing room = record { asked = is-stoppers s ss; count = h.0; legal = h.1; fits = omega arith } in
            ap Ok e ∙ sym (write-accepts w)

  -- ## What is left behind

  module _ (before : List ℕ) where
    left : {outcome : Outcome ℕ} → outcome ≡ write_dense s row (length before) → buffer outcome bytes before ≡ write_dense_into s row before
    unfolding write_dense_into
    left e = ap (λ (o : Outcome ℕ). buffer o bytes before) e

    pub write-into : Writable writing (length before) → write_dense_into s row before ≡ bytes ++ drop (length bytes) before
    write-into w = sym (left (sym (write-accepts (length before) w)))

    pub write-stoppers : is_stoppers s ≡ false → (Err BadStoppers ≡ write_dense s row (length before)) × (before ≡ write_dense_into s row before)
    unfolding write_dense
    write-stoppers o = let e : Err BadStoppers ≡ write_dense s row (length before) = written-asked writing (length before) o in (e, left e)

    pub write-refused : (r : Refusal) → Err r ≡ write_dense s row (length before) → before ≡ write_dense_into s row before
    write-refused r e = left e

    -- what putting the row asks, and what it leaves
    module _ (n : ℕ) (e : Ok n ≡ write_dense s row (length before)) where
      pub write-asks : Fits s row n (length before)
      write-asks =
          let x = write-is (length before) n (sym e) in
          (stoppers-is s x.0.asked, (x.0.count, x.0.legal), x.1, omega (arith, x.0.fits, x.1))

      pub write-put : {put : List ℕ} → put ≡ bytes → put ++ drop n before ≡ write_dense_into s row before
      write-put p = ap₂ (λ (w : List ℕ) (k : ℕ). w ++ drop k before) p write-asks.2 ∙ left e
