-- Writing a row by any code, after a check of the call's own: what is known of a row that is written, and what is refused.
use mathlib.Core.Path.{◌≡◌, refl, sym}
use mathlib.Core.Bool.{Bool, true, false, not}
use mathlib.Core.List.{List}
use Prim.Native.Nat.{ℕ, ◌≤◌, ◌<◌}
use lib.Dec.{ltb}
use lib.ListN.{length}
use borrow.Author.Tests.{lt-ltb, le-ltb, ltb-false, not-false}
use Rattle.calls.specs.declared.Refusal.{Refusal}
use Rattle.calls.specs.declared.Refusal.TheVariants.{BadNumber, TooManyNumbers, NoRoom}
use Rattle.calls.specs.Calls.{Outcome, check}
use Rattle.calls.specs.Limits.{Legal, max_count, check_each}
use Rattle.calls.proofs.Checks.{check-passed, accepted-one, each-passed, each-accepted, each-refused}
use Rattle.std.specs.Prelude.{Ok, Err}

-- a call that writes a row: its own check and refusal, the largest number, the row's encoding, and what it answers
pub record Write (A : Type 0) : Type 0 where
  pub good : Bool
  pub fault : Refusal
  pub limit : ℕ
  pub row : List ℕ
  pub encoding : List ℕ
  pub answer : A

module _ {A : Type 0} (w : Write A) (room : ℕ) where
  -- it accepts its row
  pub record Writable : Type 0 where
    pub asked : w.good ≡ true
    pub count : length w.row ≤ max_count
    pub legal : Legal w.limit w.row
    pub fits : length w.encoding ≤ room

  abbrev pub written : Outcome A
  written =
      check w.fault (not w.good)
      (check TooManyNumbers (ltb max_count (length w.row))
      (check_each BadNumber w.limit 0 w.row
      (check NoRoom (ltb room (length w.encoding))
      (Ok w.answer))))

  pub written_is : (x : A) → written ≡ Ok x → Writable × (x ≡ w.answer)
  written_is x e =
      let p = check-passed w.fault (not w.good) _ _ e in
      let p4 = check-passed TooManyNumbers (ltb max_count (length w.row)) _ _ p.1 in
      let p3 = each-accepted BadNumber w.limit 0 w.row _ _ p4.1 in
      let p5 = check-passed NoRoom (ltb room (length w.encoding)) _ _ p3.1 in (
        record {
          asked = not-false _ p.0;
          count = ltb-false max_count (length w.row) p4.0;
          legal = p3.0;
          fits = ltb-false room (length w.encoding) p5.0;
        },
        sym (accepted-one p5.1),
      )

  pub written-accepts : Writable → written ≡ Ok w.answer
  written-accepts a =
      rw (
        a.asked,
        le-ltb max_count (length w.row) a.count,
        each-passed BadNumber w.limit 0 w.row _ a.legal,
        le-ltb room (length w.encoding) a.fits,
      ) refl

  -- ## What is refused, check by check

  pub written-asked : w.good ≡ false → Err w.fault ≡ written
  written-asked g = rw g refl

  module _ (g : w.good ≡ true) where
    pub written_count : max_count < length w.row → Err TooManyNumbers ≡ written
    written_count h = rw (g, lt-ltb max_count (length w.row) h) refl

    module _ (l : length w.row ≤ max_count) where
      pub written-number : {B : Type 0} (x : B) (r : Refusal) → Err r ≡ check_each BadNumber w.limit 0 w.row (Ok x) → Err r ≡ written
      written-number x r e = rw (g, le-ltb max_count (length w.row) l) (sym (each-refused BadNumber w.limit 0 w.row x r _ (sym e)))

      pub written-room : Legal w.limit w.row → room < length w.encoding → Err NoRoom ≡ written
      written-room a h =
          rw (g, le-ltb max_count (length w.row) l, each-passed BadNumber w.limit 0 w.row _ a, lt-ltb room (length w.encoding) h) refl
