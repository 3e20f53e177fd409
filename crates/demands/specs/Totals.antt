-- Demand 2, totals: "Each total is the whole-number sum of the numbers read, with no rounding anywhere"; so, since R-1 (paper 02), is the width of a joined runner.
use Rattle.std.specs.Prelude.{◌≡◌, not, List, ℕ, ◌+◌, ◌*◌, ◌-◌, ◌^◌, ◌≤◌, ◌<◌, ltb, replicate, Ok}
use Rattle.lists.specs.Lists.{sum}
use Rattle.fibonacci.specs.Encoding.{encoding}
use Rattle.calls.specs.declared.Refusal.TheVariants.{BadOrder, BadRepeats, TooMuchShared}
use Rattle.calls.specs.Calls.{Outcome, check, and_then}
use Rattle.calls.specs.Limits.{is_order, Order, max_number, max_count, within}
use Rattle.calls.specs.Reading.{decode}
use Rattle.reading.specs.Reading.{fibonacci}
use Rattle.totals.specs.Totals.{total, repeated_total}

-- Paper 01's width, before R-1: r times the row's total
unfoldable pub plain_repeated : ℕ → List ℕ → ℕ → Outcome ℕ
plain_repeated m s r = check BadOrder (not (is_order m)) (and_then (decode (fibonacci m) max_number s) (λ row.
    check BadRepeats (not (within 1 10000 r))
    (Ok (r * sum row))))

-- As many of the largest number as a row can have
unfoldable pub largest_row : List ℕ
largest_row = replicate max_count max_number

-- "Totals are 64-bit": the largest of a span and of a repeated row are reached in every order; none is larger, and they fit
pub record LargestTotals : Type 0 where
  pub span : (m : ℕ) → Order m → total m (encoding m largest_row) 0 max_count ≡ Ok 17592186040320
  pub span_most : (m : ℕ) (s : List ℕ) (a b x : ℕ) → total m s a b ≡ Ok x → x ≤ 17592186040320
  pub repeated : (m : ℕ) → Order m → repeated_total m (encoding m largest_row) 10000 0 ≡ Ok 175921860403200000
  pub repeated_most : (m : ℕ) (s : List ℕ) (r shared x : ℕ) → repeated_total m s r shared ≡ Ok x → x ≤ 175921860403200000
  pub fit : 175921860403200000 < 2 ^ 64

-- For all orders, bytes, repeats and shared knots
pub record TotalsDemand : Type 0 where
  -- R-1: "0 where the old way is kept"
  pub none_shared : (m : ℕ) (s : List ℕ) (r : ℕ) → repeated_total m s r 0 ≡ plain_repeated m s r
  -- what one repeat would share changes nothing, but is checked
  pub one_repeat : (m : ℕ) (s : List ℕ) (shared : ℕ)
      → repeated_total m s 1 shared ≡ and_then (plain_repeated m s 1) (λ x. check TooMuchShared (ltb x shared) (Ok x))
  -- repeats that share all are one row wide
  pub all_shared : (m : ℕ) (s row : List ℕ) (r : ℕ) → Order m → decode (fibonacci m) max_number s ≡ Ok row → (1 ≤ r) × (r ≤ 10000)
      → repeated_total m s r (sum row) ≡ Ok (sum row)
  -- up to the row's total anything may be shared, and "r times the total, less (r - 1) times s" is exact: the width and (r - 1) times s add up to r times the
  -- total, so that nothing is cut off
  pub accepts : (m : ℕ) (s row : List ℕ) (r shared : ℕ) → Order m → decode (fibonacci m) max_number s ≡ Ok row → (1 ≤ r) × (r ≤ 10000) → shared ≤ sum row
      → (x : ℕ) × (repeated_total m s r shared ≡ Ok x)
  pub exact : (m : ℕ) (s row : List ℕ) (r shared x : ℕ) → decode (fibonacci m) max_number s ≡ Ok row → repeated_total m s r shared ≡ Ok x
      → x + (r - 1) * shared ≡ r * sum row
  pub largest : LargestTotals
