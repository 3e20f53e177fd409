-- What holds of every listing.
use mathlib.Core.Path.{◌≡◌, refl, sym, ap}
use mathlib.Core.Bool.{Bool, true, false, not}
use mathlib.Core.List.{List, [], ◌∷◌, ◌++◌}
use mathlib.Core.Logic.{◌⊎◌, inl, inr, ⊎_elim}
use Prim.Native.Nat.{ℕ, suc, ◌+◌, ◌*◌, ◌≤◌}
use native.Mathlib.Omega.{arith}
use native.Mathlib.Decide.{dec_le}
use lib.Dec.{ltb}
use lib.ListN.{length, get_or, take, drop, length-take, length-drop}
use lib.Seq.{take_all}
use borrow.Author.Tests.{lt-ltb, le-ltb, ltb-false, not-false}
use Rattle.bits.proofs.Packing.{pack-length}
use Rattle.columns.proofs.Columns.{column-number}
use Rattle.calls.specs.declared.Refusal.{Refusal}
use Rattle.calls.specs.declared.Refusal.TheVariants.{BadOrder, BadNumber, TooManyNumbers, NoRoom, TooMuchInput, BadLine}
use Rattle.calls.specs.Refusals.{reason}
use Rattle.calls.specs.Calls.{Outcome, check}
use Rattle.calls.specs.Limits.{is_order, Order, is_outside, Legal, max_number, max_count, max_bytes, check_each}
use Rattle.calls.proofs.Checks.{order_is, number_is, inside-number, not-both, told-refused}
use Rattle.fibonacci.specs.Code.{codeword}
use Rattle.fibonacci.specs.Encoding.{row_bits, encoding}
use Rattle.fibonacci.proofs.Rows.{bits-few}
use Rattle.fibonacci.proofs.Lookup.{codeword-short}
use Rattle.headers.specs.declared.Header.{Header}
use Rattle.headers.specs.Headers.{header_of}
use Rattle.encoder.specs.Writing.{write}
use Rattle.encoder.proofs.Writing.{write-is}
use Rattle.listing_input.specs.Input.{max_input_bytes, fields, is_input}
use Rattle.listing_input.proofs.Input.{lines_are, are_lines, fields-length}
use Rattle.listing_text.specs.Listing.{refusal_line, listing_of, listing, text, put, put_into}
use Rattle.listing_text.proofs.Answering.{text_fits}
use Rattle.listing_text.proofs.Printing.{refusal-length}
use Rattle.demands.specs.Listing.{Whole, WholeLines, ListingDemand}
use Rattle.std.specs.Prelude.{Ok, Err}

-- ## Which refusals there are

-- a chain refuses by its first check, or by what comes after
check-refused : {A : Type 0} (r : Refusal) (t : Bool) (next : Outcome A) (q : Refusal) → check r t next ≡ Err q
    → (q ≡ r) ⊎ ((t ≡ false) × (next ≡ Err q))
check-refused r true next q e = inl (sym (cc))
check-refused r false next q e = inr (refl, e)

-- so does the check of each number
each-refuses : {A : Type 0} (fault : ℕ → Refusal) (limit place : ℕ) (row : List ℕ) (next : Outcome A) (q : Refusal) → check_each fault limit place row next ≡ Err q
    → ((i : ℕ) × (q ≡ fault i)) ⊎ (Legal limit row × (next ≡ Err q))
unfolding check_each
each-refuses fault limit place [] next q e = inr (tt, e)
each-refuses fault limit place (n ∷ row) next q e = go (check-refused (fault place) (is_outside limit n) _ q e) (each-refuses fault limit (suc place) row next q)
  where
    more : is_outside limit n ≡ false → ((i : ℕ) × (q ≡ fault i)) ⊎ (Legal limit row × (next ≡ Err q))
        → ((i : ℕ) × (q ≡ fault i)) ⊎ (Legal limit (n ∷ row) × (next ≡ Err q))
    more o (inl x) = inl x
    more o (inr x) = inr ((inside-number limit n o, x.0), x.1)

    go : (q ≡ fault place) ⊎ ((is_outside limit n ≡ false) × (check_each fault limit (suc place) row next ≡ Err q))
        → (check_each fault limit (suc place) row next ≡ Err q → ((i : ℕ) × (q ≡ fault i)) ⊎ (Legal limit row × (next ≡ Err q)))
        → ((i : ℕ) × (q ≡ fault i)) ⊎ (Legal limit (n ∷ row) × (next ≡ Err q))
    go (inl x) ih = inl (place, x)
    go (inr x) ih = more x.0 (ih x.1)

-- a row of no more than 4,096 numbers is refused with 1 or 3, where there is room for every encoding
written-refused : (m : ℕ) (row : List ℕ) (q : Refusal) → length row ≤ max_count → write m row max_bytes ≡ Err q → (q ≡ BadOrder) ⊎ ((place : ℕ) × (q ≡ BadNumber place))
unfolding write encoding
written-refused m row q few e = ⊎_elim inl order (check-refused BadOrder (not (is_order m)) _ q e)
  where
    end : Outcome (ℕ × Header)
    end = check NoRoom (ltb max_bytes (length (encoding m row))) (Ok (length (encoding m row), header_of m row))

    room : is_order m ≡ true → Legal max_number row → length (encoding m row) ≤ max_bytes
    room o a = omega (arith, pack-length (row_bits m row), bits-few m row (order_is m o) a)

    last : is_order m ≡ true → ((place : ℕ) × (q ≡ BadNumber place))
        ⊎ (Legal max_number row × (end ≡ Err q))
        → (q ≡ BadOrder) ⊎ ((place : ℕ) × (q ≡ BadNumber place))
    last o (inl x) = inr x
    last o (inr x) = absurd (not-both (sym (rw (le-ltb max_bytes (length (encoding m row)) (room o x.0)) at x.1)))

    order : (not (is_order m) ≡ false)
        × (check TooManyNumbers (ltb max_count (length row)) (check_each BadNumber max_number 0 row end) ≡ Err q)
        → (q ≡ BadOrder) ⊎ ((place : ℕ) × (q ≡ BadNumber place))
    order x = last (not-false _ x.0) (each-refuses BadNumber max_number 0 row _ q (rw (le-ltb max_count (length row) few) at x.1))

refusals : (s : List ℕ) (r : Refusal) → listing s ≡ Err r
    → (r ≡ TooMuchInput) ⊎ ((r ≡ BadLine) ⊎ ((r ≡ BadOrder) ⊎ ((place : ℕ) × (r ≡ BadNumber place))))
unfolding listing listing_of
refusals s r e =
    ⊎_elim inl (λ (x : (ltb max_input_bytes (length s) ≡ false) × _).
    inr (⊎_elim inl (λ (y : (not (is_input s) ≡ false) × _).
    inr (written-refused (get_or (fields s) 0 0) (drop 1 (fields s)) r
    (omega (arith, ltb-false max_input_bytes (length s) x.0, fields-length s, length-drop 1 (fields s)))
    (told-refused (write (get_or (fields s) 0 0) (drop 1 (fields s)) max_bytes) _ r (sym y.1))))
    (check-refused BadLine (not (is_input s)) _ r x.1)))
    (check-refused TooMuchInput (ltb max_input_bytes (length s)) _ r e)

-- ## A refused input is answered by its text

refused_text : (s before : List ℕ) (r : Refusal) → listing s ≡ Err r → 8 ≤ length before
    → (put (text s) (length before) ≡ Ok 8) × (put_into (text s) before ≡ refusal_line (reason r).0 ++ drop 8 before)
unfolding text put put_into
refused_text s before r e h =
    let long = refusal-length (reason r).0 in
    rw (e, long, le-ltb (length before) 8 h) (refl, ap (λ (k : ℕ). refusal_line (reason r).0 ++ drop k before) long)

-- ## As much of an input as is read

first_bytes : (s : List ℕ) → text (take 45068 s) ≡ text s
unfolding text listing
first_bytes s =
    elim (dec_le (length s) 45068) [
      | yes h ↦ ap text (take_all 45068 s h)
      | no h ↦ rw (lt-ltb max_input_bytes (length s) (omega arith), lt-ltb max_input_bytes (length (take 45068 s)) (omega (arith, length-take 45068 s)))
    ]

-- ## Digits

lines-whole : (m place total : ℕ) (row : List ℕ) → Order m → Legal max_number row → place + length row ≤ max_count → total ≤ max_number * place
    → WholeLines m place total row
lines-whole m place total [] o a p t = tt
lines-whole m place total (n ∷ row) o a p t =
    let l = number_is max_number n a.0 in (
      column-number 5 place (omega arith),
      column-number 11 n (omega (arith, l.1)),
      column-number 5 (length (codeword m n)) (omega (arith, codeword-short m n o l.0 l.1)),
      column-number 16 (total + n) (omega (arith, l.1)),
      lines-whole m (suc place) (total + n) row o a.1 (omega arith) (omega (arith, l.1)),
    )

nothing_cut : (m : ℕ) (row : List ℕ) (bytes : ℕ) (h : Header) → write m row max_bytes ≡ Ok (bytes, h) → WholeLines m 0 0 row × Whole 11 bytes
nothing_cut m row bytes h e =
    let w = write-is m row max_bytes bytes h e in
    (lines-whole m 0 0 row (order_is m w.0.asked) w.0.legal (omega (arith, w.0.count)) (omega arith), column-number 11 bytes (omega (arith, w.0.fits, w.1)))

pub listing-demand : ListingDemand
listing-demand =
    record {
      lines_are = lines_are;
      are_lines = are_lines;
      refusals = refusals;
      refused_text = refused_text;
      first_bytes = first_bytes;
      text_fits = text_fits;
      nothing_cut = nothing_cut;
    }
