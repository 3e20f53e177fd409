-- What is printed, check by check; that it is not long.
use mathlib.Core.Path.{◌≡◌, refl, sym, ap, ap₂, ◌∙◌}
use mathlib.Core.Bool.{Bool, true, false, not}
use mathlib.Core.List.{List, map}
use Prim.Native.Nat.{ℕ, ◌+◌, ◌*◌, ◌-◌, ◌≤◌, ◌<◌}
use native.Mathlib.Omega.{arith}
use lib.Dec.{ltb}
use lib.ListN.{length, get_or, take, drop, length-take, length-map}
use lib.Seq.{sets}
use borrow.Author.Tests.{lt-ltb, le-ltb}
use Rattle.calls.proofs.Checks.{check-passed, then-passed, accepted-one, refused-one, not-both}
use Rattle.calls.specs.declared.Refusal.{Refusal}
use Rattle.calls.specs.declared.Refusal.TheVariants.{BadOrder, NoRoom, TooMuchInput, BadLine}
use Rattle.calls.specs.Refusals.{reason}
use Rattle.calls.specs.Calls.{Outcome, check}
use Rattle.calls.specs.Leaves.{counting, Scanned}
use Rattle.calls.specs.Limits.{is_order, Legal, max_number, max_count, max_bytes}
use Rattle.fibonacci.specs.Leaves.{number_or_zero}
use Rattle.headers.specs.declared.Header.{Header}
use Rattle.encoder.specs.Writing.{write}
use Rattle.encoder.proofs.Writing.{write-is}
use Rattle.listing_input.specs.Input.{max_input_bytes, fields, is_input}
use Rattle.listing_input.specs.Leaves.{parsed}
use Rattle.listing_lines.specs.Lines.{lines}
use Rattle.listing_lines.proofs.Lines.{lines-length}
use Rattle.listing_text.specs.Listing.{refusal_line, listing_of, listing, printed, text, max_text_bytes, Puts}
use Rattle.listing_input.proofs.Input.{lines_are}
use Rattle.listing_text.proofs.Clipping.{listing-same, order_row}
use Rattle.listing_text.proofs.Printing.{refusal-length, puts_short, puts_done, puts_same}
use Rattle.std.specs.Prelude.{Ok, Err}

-- ## The listing of a row

pub write_order : (m : ℕ) (row : List ℕ) → is_order m ≡ false → write m row max_bytes ≡ Err BadOrder
unfolding write
write_order m row e = rw e refl

-- a row whose encoding has so many bytes is listed by its lines, and one that writing refuses by the line of the refusal
pub list_written : (m : ℕ) (row : List ℕ) (bytes : ℕ) (h : Header) → Ok (bytes, h) ≡ write m row max_bytes → lines m row bytes ≡ printed (listing_of m row)
unfolding listing_of
list_written m row bytes h e = rw (← e) refl

pub list-refused : (m : ℕ) (row : List ℕ) (r : Refusal) → Err r ≡ write m row max_bytes → refusal_line (reason r).0 ≡ printed (listing_of m row)
unfolding listing_of
list-refused m row r e = rw (← e) refl

-- a row whose encoding has so many bytes, in a buffer
module _ (m : ℕ) (row : List ℕ) (bytes : ℕ) (h : Header) (e : write m row max_bytes ≡ Ok (bytes, h)) where
  pub list_few : length row ≤ max_count
  list_few = (write-is m row max_bytes bytes h e).0.count

  pub list_legal : Legal max_number row
  list_legal = (write-is m row max_bytes bytes h e).0.legal

  pub list_short : (before : List ℕ) → length before < 55 + 38 * length row → Puts (printed (listing_of m row)) before (Err NoRoom) before
  list_short before less =
      let short = puts_short (lines m row bytes) before (55 + 38 * length row) (lines-length m row bytes) less in
      puts_same _ _ _ _ _ (list_written m row bytes h (sym e)) short

  pub list_done : (before after : List ℕ) → 55 + 38 * length row ≤ length before → after ≡ sets before 0 (lines m row bytes)
      → Puts (printed (listing_of m row)) before (Ok (55 + 38 * length row)) after
  list_done before after room put =
      let done = puts_done (lines m row bytes) before (55 + 38 * length row) (lines-length m row bytes) after room put in
      puts_same _ _ _ _ _ (list_written m row bytes h (sym e)) done

-- a row that writing refuses, in a buffer
pub list_refused : (m : ℕ) (row before : List ℕ) (r : Refusal) (answer : Outcome ℕ) (after : List ℕ) → write m row max_bytes ≡ Err r
    → Puts (refusal_line (reason r).0) before answer after → Puts (printed (listing_of m row)) before answer after
list_refused m row before r answer after e p = puts_same _ _ _ _ _ (list-refused m row r (sym e)) p

-- ## The text of an input

module _ (s : List ℕ) where
  pub text_long : max_input_bytes < length s → refusal_line 4 ≡ text s
  unfolding text listing
  text_long h = rw (lt-ltb max_input_bytes (length s) h) refl

  module _ (h : length s ≤ max_input_bytes) where
    pub text_refused : (r : Refusal) → Err r ≡ counting (parsed s) → refusal_line (reason r).0 ≡ text s
    unfolding text listing parsed
    text_refused r e = rw (le-ltb max_input_bytes (length s) h) (by (is_input s) refl)
      where
        by : (t : Bool) → is_input s ≡ t
            → refusal_line (reason r).0 ≡ printed (check BadLine (not (is_input s)) (listing_of (get_or (fields s) 0 0) (drop 1 (fields s))))
        by true q = absurd (not-both (rw q at e))
        by false q = let same : r ≡ BadLine = refused-one (rw q at e) in rw (q, same) refl

    -- the order and the row are in a list of 32-bit numbers
    pub text_listed : (count : ℕ) (numbers : List ℕ) → Scanned (parsed s) (Ok count) numbers
        → (1 ≤ count) × (count ≤ length numbers) × (printed (listing_of (get_or numbers 0 0) (take (count - 1) (drop 1 numbers))) ≡ text s)
    unfolding text listing parsed
    text_listed count numbers p = by (is_input s) refl
      where
        by : (t : Bool) → is_input s ≡ t
            → (1 ≤ count) × (count ≤ length numbers) × (printed (listing_of (get_or numbers 0 0) (take (count - 1) (drop 1 numbers))) ≡ text s)
        by false q = absurd (not-both (sym (rw q at p.0)))
        by true q =
            let long : count ≡ length (map number_or_zero (fields s)) = accepted-one (rw q at p.0) in
            let begins : take count numbers ≡ map number_or_zero (fields s) = rw long (rw q at p.1) in
            let some : 1 ≤ length (fields s) = (lines_are s q).1 in
            let few : count ≡ length (fields s) = long ∙ length-map (fields s) number_or_zero in
            let r = order_row count numbers (fields s) (omega arith) some begins in (
              omega arith,
              omega (arith, ap length begins, length-take count numbers, long),
              rw (le-ltb max_input_bytes (length s) h, q) (ap printed (ap₂ listing_of r.0 r.1 ∙ listing-same (get_or (fields s) 0 0) (drop 1 (fields s)))),
            )

-- ## How long a text is

list-fits : (m : ℕ) (row t : List ℕ) → listing_of m row ≡ Ok t → length t ≤ max_text_bytes
unfolding listing_of
list-fits m row t e =
    let p = then-passed (write m row max_bytes) _ t e in
    let w = write-is m row max_bytes p.0.0 p.0.1 p.1 in
    omega (arith, ap length (accepted-one p.2), lines-length m row p.0.0, w.0.count)

pub text_fits : (s : List ℕ) → length (text s) ≤ max_text_bytes
unfolding text listing
text_fits s = by (listing s) refl
  where
    by : (o : Outcome (List ℕ)) → listing s ≡ o → length (printed o) ≤ max_text_bytes
    by (Err r) e = omega (arith, refusal-length (reason r).0)
    by (Ok t) e =
        let p4 = check-passed TooMuchInput (ltb max_input_bytes (length s)) _ t e in
        let p13 = check-passed BadLine (not (is_input s)) _ t p4.1 in
        list-fits _ _ t p13.1
