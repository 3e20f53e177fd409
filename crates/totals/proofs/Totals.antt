-- How large the totals of a row that was read can be, and the total of a repeated row as it is computed.
use mathlib.Core.Path.{◌≡◌, sym, ap, ◌∙◌}
use mathlib.Core.List.{List}
use Prim.Native.Nat.{ℕ, suc, ◌+◌, ◌*◌, ◌-◌, ◌≤◌}
use native.Mathlib.Omega.{arith}
use native.Mathlib.Nat.{mul-add, suc-mul, sub-add_cancel, mul-le-mul}
use lib.ListN.{length}
use lib.Seq.{slice, take_all}
use Rattle.lists.specs.Lists.{sum}
use Rattle.fibonacci.proofs.Sums.{slice-most}
use Rattle.calls.specs.Limits.{max_number, max_count}
use Rattle.calls.specs.Reading.{decode}
use Rattle.reading.specs.Reading.{fibonacci}
use Rattle.reading.proofs.Decoding.{decode_is}
use Rattle.std.specs.Prelude.{Ok}

module _ (m : ℕ) (s row : List ℕ) (e : decode (fibonacci m) max_number s ≡ Ok row) where
  -- no sum is larger than 4,096 times the largest number: that of any span, and that of the row
  pub span_most : (a b : ℕ) → sum (slice a b row) ≤ max_number * max_count
  span_most a b =
      let d = decode_is m max_number s row e in
      omega (arith, slice-most max_number (omega arith) row a b d.legal, d.long)

  pub row-most : sum row ≤ max_number * max_count
  row-most = omega (arith, span_most 0 (length row), ap sum (take_all (length row) row (omega arith)))

-- r repeats of a total, each of which shares a part of it with the next
module _ (r total shared : ℕ) (some : 1 ≤ r) (h : shared ≤ total) where
  -- the first adds the total, and each further one what is not shared; with r - 1 times what is shared that is r totals
  pub repeats-all : total + (r - 1) * (total - shared) + (r - 1) * shared ≡ r * total
  repeats-all =
      let one_less : r ≡ suc (r - 1) = omega arith in
      omega (
        arith,
        ap (λ (k : ℕ). k * total) one_less ∙ suc-mul (r - 1) total,
        ap (λ (k : ℕ). (r - 1) * k) (sym (sub-add_cancel h)) ∙ mul-add (r - 1) (total - shared) shared,
      )

  -- so the subtraction cuts nothing off
  pub repeats-less : r * total - (r - 1) * shared ≡ total + (r - 1) * (total - shared)
  repeats-less = omega (arith, repeats-all)

  -- and nothing that is computed is above the largest there is
  pub repeats-most : r ≤ 10000 → total ≤ max_number * max_count → total + (r - 1) * (total - shared) ≤ 10000 * (max_number * max_count)
  repeats-most few small = omega (arith, repeats-all, mul-le-mul few small)
