-- Totals are exact, and how large they can be.
use mathlib.Core.Path.{◌≡◌, refl, sym, ap, ◌∙◌}
use mathlib.Core.Bool.{true, not}
use mathlib.Core.List.{List}
use Prim.Native.Nat.{ℕ, ◌+◌, ◌*◌, ◌-◌, ◌≤◌}
use native.Mathlib.Omega.{arith}
use native.Mathlib.Nat.{mul-zero, one-mul, zero-mul, sub-zero, sub_self}
use lib.Dec.{ltb}
use lib.ListN.{length, length-replicate}
use lib.Seq.{take_all}
use borrow.Author.Tests.{le-leb, le-ltb, ltb-false, not-false}
use Rattle.lists.specs.Lists.{sum}
use Rattle.lists.proofs.Each.{all_same}
use Rattle.lists.proofs.Sums.{sum_same}
use Rattle.fibonacci.specs.Encoding.{encoding}
use Rattle.calls.specs.declared.Refusal.TheVariants.{BadOrder, BadSpan, BadRepeats, TooMuchShared}
use Rattle.calls.specs.Calls.{check, and_then}
use Rattle.calls.specs.Limits.{is_order, Order, is_number, max_number, max_count, within}
use Rattle.calls.specs.Reading.{decode}
use Rattle.calls.proofs.Checks.{within_both, is-order, is-number, accepted-one, check-passed, then-passed, check-then, then-then, then_same}
use Rattle.reading.specs.Reading.{fibonacci}
use Rattle.totals.specs.Totals.{total, repeated_total}
use Rattle.totals.proofs.Totals.{span_most, row-most, repeats-all, repeats-less, repeats-most}
use Rattle.demands.specs.Totals.{plain_repeated, largest_row, LargestTotals, TotalsDemand}
use Rattle.demands.proofs.RoundTrip.{decode-encoding}
use Rattle.std.specs.Prelude.{Ok}

-- ## What repeats share

none_shared : (m : ℕ) (s : List ℕ) (r : ℕ) → repeated_total m s r 0 ≡ plain_repeated m s r
unfolding repeated_total plain_repeated
none_shared m s r =
    ap (check BadOrder (not (is_order m)))
    (then_same (decode (fibonacci m) max_number s) _ _ (λ row.
    ap (check BadRepeats (not (within 1 10000 r))) (rw (le-ltb (sum row) 0 (omega arith), mul-zero (r - 1), sub-zero (r * sum row)) refl)))

one_repeat : (m : ℕ) (s : List ℕ) (shared : ℕ)
    → repeated_total m s 1 shared ≡ and_then (plain_repeated m s 1) (λ x. check TooMuchShared (ltb x shared) (Ok x))
unfolding repeated_total plain_repeated
one_repeat m s shared =
    let d = decode (fibonacci m) max_number s in
    sym (check-then BadOrder (not (is_order m)) _ _
    ∙ ap (check BadOrder (not (is_order m)))
    (then-then d _ _ ∙ then_same d _ _ (λ row. rw (one-mul (sum row), zero-mul shared, sub-zero (sum row)) refl)))

-- what passes every check is accepted
accepts : (m : ℕ) (s row : List ℕ) (r shared : ℕ) → Order m → decode (fibonacci m) max_number s ≡ Ok row → (1 ≤ r) × (r ≤ 10000) → shared ≤ sum row
    → repeated_total m s r shared ≡ Ok (r * sum row - (r - 1) * shared)
unfolding repeated_total
accepts m s row r shared o d h l = rw (is-order m o, d, le-leb 1 r h.0, le-leb r 10000 h.1, le-ltb (sum row) shared l) refl

all_shared : (m : ℕ) (s row : List ℕ) (r : ℕ) → Order m → decode (fibonacci m) max_number s ≡ Ok row → (1 ≤ r) × (r ≤ 10000)
    → repeated_total m s r (sum row) ≡ Ok (sum row)
all_shared m s row r o d h =
    let t = sum row in
    let none : (r - 1) * (t - t) ≡ 0 = ap (λ (k : ℕ). (r - 1) * k) (sub_self t) ∙ mul-zero (r - 1) in
    let width : r * t - (r - 1) * t ≡ t = omega (arith, repeats-less r t t h.0 (omega arith)) in
    accepts m s row r t o d h (omega arith) ∙ ap Ok width

-- and what is accepted has passed every check
passed : (m : ℕ) (s : List ℕ) (r shared x : ℕ) → repeated_total m s r shared ≡ Ok x
    → (row : List ℕ) × (decode (fibonacci m) max_number s ≡ Ok row) × ((1 ≤ r) × (r ≤ 10000)) × (shared ≤ sum row) × (r * sum row - (r - 1) * shared ≡ x)
unfolding repeated_total
passed m s r shared x e =
    let o = check-passed BadOrder (not (is_order m)) _ x e in
    let d = then-passed (decode (fibonacci m) max_number s) _ x o.1 in
    let p = check-passed BadRepeats (not (within 1 10000 r)) _ x d.2 in
    let q = check-passed TooMuchShared (ltb (sum d.0) shared) _ x p.1 in
    (d.0, d.1, within_both 1 10000 r (not-false _ p.0), ltb-false _ _ q.0, accepted-one q.1)

exact : (m : ℕ) (s row : List ℕ) (r shared x : ℕ) → decode (fibonacci m) max_number s ≡ Ok row → repeated_total m s r shared ≡ Ok x
    → x + (r - 1) * shared ≡ r * sum row
exact m s row r shared x d e =
    let p = passed m s r shared x e in
    let same : p.0 ≡ row = accepted-one (sym p.1 ∙ d) in
    omega (arith, p.4, repeats-all r (sum p.0) shared p.2.0 p.3, ap (λ (l : List ℕ). r * sum l) same)

-- ## The largest totals

decode-largest : (m : ℕ) → Order m → decode (fibonacci m) max_number (encoding m largest_row) ≡ Ok largest_row
unfolding largest_row
decode-largest m o =
    decode-encoding m largest_row o (omega (arith, length-replicate max_count max_number))
    (all_same (λ n. is_number max_number n ≡ true) max_count max_number (is-number max_number max_number (omega arith) (omega arith)))

largest : LargestTotals
unfolding total repeated_total largest_row
largest =
    record {
      span = λ m o.
          let l = length-replicate max_count max_number in
          rw (is-order m o, decode-largest m o) (ap Ok (ap sum (take_all max_count largest_row (omega arith)) ∙ sum_same max_count max_number));
      span_most = λ m s a b x e.
          let o = check-passed BadOrder (not (is_order m)) _ x e in
          let d = then-passed (decode (fibonacci m) max_number s) _ x o.1 in
          let p = check-passed BadSpan (ltb b a) _ x d.2 in
          let q = check-passed BadSpan (ltb (length d.0) b) _ x p.1 in
          omega (arith, span_most m s d.0 d.1 a b, accepted-one q.1);
      repeated = λ m o.
          rw (is-order m o, decode-largest m o) (ap (λ (x : ℕ). check TooMuchShared (ltb x 0) (Ok (10000 * x - 9999 * 0))) (sum_same max_count max_number));
      repeated_most = λ m s r shared x e.
          let p = passed m s r shared x e in
          let t = sum p.0 in
          omega (arith, p.4, repeats-less r t shared p.2.0 p.3, repeats-most r t shared p.2.0 p.3 p.2.1 (row-most m s p.0 p.1));
      fit = omega arith;
    }

pub totals-demand : TotalsDemand
totals-demand =
    record {
      none_shared = none_shared;
      one_repeat = one_repeat;
      all_shared = all_shared;
      accepts = λ m s row r shared o d h l. (r * sum row - (r - 1) * shared, accepts m s row r shared o d h l);
      exact = exact;
      largest = largest;
    }
