-- What the host gets for a refusal; and that it fits 64 bits: places and counts are at most 4,096, and totals at most so many times the largest number.
use mathlib.Core.Path.{◌≡◌, refl, sym, ◌∙◌}
use mathlib.Core.Bool.{Bool, true, false, not}
use mathlib.Core.List.{List, [], ◌∷◌}
use Prim.Native.Nat.{ℕ, suc, ◌+◌, ◌*◌, ◌≤◌}
use native.Mathlib.Omega.{arith}
use native.Mathlib.Decide.{dec_le}
use lib.Dec.{leb, ltb}
use lib.ListN.{length}
use borrow.Author.Tests.{le-leb, eq-eqb, ne_eqb}
use Rattle.bits.specs.Bits.{unpack}
use Rattle.codes.specs.Parse.{rest}
use Rattle.fibonacci.specs.Encoding.{parse, numbers}
use Rattle.calls.specs.declared.Refusal.{Refusal}
use Rattle.calls.specs.declared.Refusal.TheVariants.{BadOrder, TooManyBytes, TooManyCodewords, NoRoom, BadRest, TooLarge, BadSpan}
use Rattle.calls.specs.Refusals.{reason}
use Rattle.calls.specs.Calls.{Outcome, check, and_then}
use Rattle.calls.specs.Limits.{is_order, max_number, max_count, max_bytes}
use Rattle.calls.specs.Reading.{check_finished, contents, decode}
use Rattle.reading.specs.Reading.{is_bad_rest, fibonacci}
use Rattle.reading.proofs.Decoding.{decode_is}
use Rattle.totals.specs.Totals.{total}
use Rattle.totals.proofs.Totals.{span_most}
use Rattle.table_decoder.specs.Reading.{read_bytes}
use Rattle.table_decoder.proofs.Answering.{table-decode}
use Rattle.host.specs.Host.{host_number}
use Rattle.std.specs.Prelude.{Ok, Err}

-- 7 comes with its place, and every other number alone
pub host-place : (r : Refusal) {number place : ℕ} → number ≡ (reason r).0 → place ≡ (reason r).1 → number ≡ 7 → 7 + 32 * place ≡ host_number (Err r)
host-place r n p e = rw (p, eq-eqb (reason r).0 7 (sym n ∙ e), host_number)

pub host-alone : (r : Refusal) {number : ℕ} → number ≡ (reason r).0 → (number ≡ 7 → ⊥) → number ≡ host_number (Err r)
host-alone r n e = n ∙ rw (ne_eqb (reason r).0 7 (λ h. e (n ∙ h)), host_number)

-- A place is at most 4,096, and what is accepted is what it should be
abbrev pub Fits : {A : Type 0} → (A → Type 0) → Outcome A → Type 0
Fits P (Ok x) = P x
Fits P (Err r) = (reason r).1 ≤ max_count

check-fits : {A : Type 0} (P : A → Type 0) (r : Refusal) (t : Bool) (next : Outcome A) → (reason r).1 ≤ max_count → Fits P next → Fits P (check r t next)
check-fits P r true next h f = h
check-fits P r false next h f = f

-- what goes on after a part that fits
then-fits : {A B : Type 0} (P : B → Type 0) (d : Outcome A) (next : A → Outcome B) → Fits (λ x. Unit {0}) d → ((x : A) → d ≡ Ok x → Fits P (next x)) → Fits P (and_then d next)
then-fits P (Ok x) next f g = g x refl
then-fits P (Err r) next f g = f

finished-fits : {A : Type 0} (P : A → Type 0) (limit i : ℕ) (ns : List ℕ) (next : Outcome A) → Fits P next → i ≤ max_count → Fits P (check_finished limit i ns next)
unfolding check_finished
finished-fits P limit i [] next f h = f
finished-fits P limit i (n ∷ ns) next f h =
    elim (dec_le max_count i) [
      | yes l ↦ rw (le-leb max_count i l) (omega arith)
      | no l ↦
          check-fits P TooManyCodewords (leb max_count i) _ (omega arith)
          (check-fits P (TooLarge i) (ltb limit n) _ h (finished-fits P limit (suc i) ns next f (omega arith)))
    ]

decode-fits : (m : ℕ) (s : List ℕ) → Fits (λ x. Unit {0}) (decode (fibonacci m) max_number s)
unfolding decode contents
decode-fits m s =
    check-fits _ TooManyBytes (ltb max_bytes (length s)) _ (omega arith)
    (finished-fits _ max_number 0 (numbers m (unpack s)) _ (check-fits _ BadRest (is_bad_rest (rest (parse m (unpack s)))) _ (omega arith) tt) (omega arith))

pub bytes_fit : (s : List ℕ) (room : ℕ) → Fits (λ n. n ≤ max_count) (read_bytes s room)
unfolding read_bytes
bytes_fit s room =
    rw (table-decode s) (then-fits _ (decode (fibonacci 3) max_number s) _ (decode-fits 3 s)
    (λ row e. check-fits _ NoRoom (ltb room (4 * length row)) _ (omega arith) (decode_is 3 max_number s row e).long))

pub total-fits : (m : ℕ) (s : List ℕ) (a b : ℕ) → Fits (λ x. x ≤ max_number * max_count) (total m s a b)
unfolding total
total-fits m s a b =
    check-fits _ BadOrder (not (is_order m)) _ (omega arith)
    (then-fits _ (decode (fibonacci m) max_number s) _ (decode-fits m s)
    (λ row e. check-fits _ BadSpan (ltb b a) _ (omega arith) (check-fits _ BadSpan (ltb (length row) b) _ (omega arith) (span_most m s row e a b))))
