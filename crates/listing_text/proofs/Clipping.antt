-- The numbers of the input in 32 bits: one that is too large becomes 0, and both are refused alike.
use mathlib.Core.Path.{◌≡◌, refl, sym, ap, ap₂, ◌∙◌}
use mathlib.Core.Bool.{Bool, true, false, not, ◌&&◌, ◌||◌, and-false, or-true}
use mathlib.Core.List.{List, [], ◌∷◌, map}
use Prim.Native.Nat.{ℕ, zero, suc, ◌-◌, ◌≤◌}
use native.Mathlib.Omega.{arith}
use native.Mathlib.Decide.{dec_le}
use lib.Dec.{leb, ltb, eqb}
use lib.ListN.{length, get_or, take, drop, length-map}
use borrow.Author.Tests.{lt-leb, lt-ltb}
use Rattle.calls.proofs.Checks.{order_is, number_is, check-then, each-accepted, each-refused}
use Rattle.calls.specs.declared.Refusal.{Refusal}
use Rattle.calls.specs.declared.Refusal.TheVariants.{BadOrder, BadNumber, TooManyNumbers}
use Rattle.calls.specs.Calls.{Outcome, check, and_then}
use Rattle.calls.specs.Limits.{within, is_order, is_outside, Legal, max_number, max_count, check_each}
use Rattle.fibonacci.specs.Leaves.{number_or_zero}
use Rattle.fibonacci.proofs.Lookup.{number-kept, number-zero}
use Rattle.headers.specs.declared.Header.{Header}
use Rattle.encoder.specs.Writing.{write}
use Rattle.listing_lines.specs.Lines.{lines}
use Rattle.listing_text.specs.Listing.{listing_of}
use Rattle.std.specs.Prelude.{Ok, Err}

outside-same : (n : ℕ) → is_outside max_number (number_or_zero n) ≡ is_outside max_number n
unfolding is_outside
outside-same n =
    elim (dec_le n max_number) [
      | yes h ↦ ap (is_outside max_number) (number-kept n h)
      | no h ↦ ap (is_outside max_number) (number-zero n (omega arith)) ∙ sym (ap (λ (t : Bool). eqb n 0 || t) (lt-ltb max_number n (omega arith)) ∙ or-true (eqb n 0))
    ]

order_same : (m : ℕ) → is_order (number_or_zero m) ≡ is_order m
unfolding is_order
order_same m =
    elim (dec_le m max_number) [
      | yes h ↦ ap (within 2 6) (number-kept m h)
      | no h ↦ ap (within 2 6) (number-zero m (omega arith)) ∙ sym (ap (λ (t : Bool). leb 2 m && t) (lt-leb m 6 (omega arith)) ∙ and-false (leb 2 m))
    ]

row_same : (row : List ℕ) → Legal max_number row → map number_or_zero row ≡ row
row_same [] a = refl
row_same (n ∷ row) a = ap₂ ◌∷◌ (number-kept n (number_is max_number n a.0).1) (row_same row a.1)

each_same : {A : Type 0} (place : ℕ) (row : List ℕ) (next : Outcome A) → check_each BadNumber max_number place (map number_or_zero row) next ≡ check_each BadNumber max_number place row next
unfolding check_each
each_same place [] next = refl
each_same place (n ∷ row) next =
    ap₂ (λ (t : Bool) (o : Outcome _). check (BadNumber place) t o) (outside-same n) (each_same (suc place) row next)

-- ## The listing of a row

-- a number is at fault: whatever it is, the listing is refused
list-fault : (m : ℕ) (row : List ℕ) (r : Refusal) → check_each {A = ℕ} BadNumber max_number 0 row (Ok 0) ≡ Err r
    → listing_of m row ≡ check BadOrder (not (is_order m)) (check TooManyNumbers (ltb max_count (length row)) (Err r))
unfolding listing_of write
list-fault m row r e =
    ap (λ (o : Outcome (ℕ × Header)). and_then (check BadOrder (not (is_order m)) (check TooManyNumbers (ltb max_count (length row)) o)) (λ x. Ok (lines m row x.0)))
    (each-refused BadNumber max_number 0 row 0 r _ e)
    ∙ check-then BadOrder (not (is_order m)) _ _
    ∙ ap (check BadOrder (not (is_order m))) (check-then TooManyNumbers (ltb max_count (length row)) (Err r) _)

list-row : (m : ℕ) (row : List ℕ) → listing_of m (map number_or_zero row) ≡ listing_of m row
list-row m row = by (check_each {A = ℕ} BadNumber max_number 0 row (Ok 0)) refl
  where
    by : (o : Outcome ℕ) → check_each {A = ℕ} BadNumber max_number 0 row (Ok 0) ≡ o → listing_of m (map number_or_zero row) ≡ listing_of m row
    by (Ok x) e = ap (listing_of m) (row_same row (each-accepted BadNumber max_number 0 row _ x e).0)
    by (Err r) e =
        list-fault m (map number_or_zero row) r (each_same 0 row (Ok 0) ∙ e)
        ∙ ap (λ (n : ℕ). check BadOrder (not (is_order m)) (check TooManyNumbers (ltb max_count n) (Err r))) (length-map row number_or_zero)
        ∙ sym (list-fault m row r e)

list-order : (m : ℕ) (row : List ℕ) → is_order m ≡ false → listing_of m row ≡ Err BadOrder
unfolding listing_of write
list-order m row o = rw o refl

pub listing-same : (m : ℕ) (row : List ℕ) → listing_of (number_or_zero m) (map number_or_zero row) ≡ listing_of m row
listing-same m row = by (is_order m) refl
  where
    by : (t : Bool) → is_order m ≡ t → listing_of (number_or_zero m) (map number_or_zero row) ≡ listing_of m row
    by true o = ap (λ (k : ℕ). listing_of k (map number_or_zero row)) (number-kept m (omega (arith, (order_is m o).1))) ∙ list-row m row
    by false o = list-order (number_or_zero m) (map number_or_zero row) (order_same m ∙ o) ∙ sym (list-order m row o)

-- ## The order and the row in a list

-- the first numbers of a list are those of the input: the first of them is the order, the others are the row
pub order_row : (count : ℕ) (numbers ns : List ℕ) → 1 ≤ count → 1 ≤ length ns → take count numbers ≡ map number_or_zero ns
    → (get_or numbers 0 0 ≡ number_or_zero (get_or ns 0 0)) × (take (count - 1) (drop 1 numbers) ≡ map number_or_zero (drop 1 ns))
order_row zero numbers ns h k e = absurd (omega arith)
order_row (suc count) numbers [] h k e = absurd (omega arith)
order_row (suc count) [] (n ∷ ns) h k e = absurd (omega (arith, ap length e))
order_row (suc count) (x ∷ numbers) (n ∷ ns) h k e =
    let one : suc count - 1 ≡ count = omega arith in (
      ap (λ (l : List ℕ). get_or l 0 0) e,
      ap (λ (j : ℕ). take j numbers) one ∙ ap (drop 1) e,
    )
