-- The largest sum of a row, or of a span of it.
use mathlib.Core.List.{List, [], ◌∷◌}
use Prim.Native.Nat.{ℕ, ◌*◌, ◌≤◌}
use native.Mathlib.Omega.{arith}
use lib.ListN.{length, take}
use lib.Seq.{slice}
use Rattle.lists.specs.Lists.{sum}
use Rattle.lists.proofs.Sums.{sum-take, sum_drop}
use Rattle.calls.proofs.Checks.{number_is}
use Rattle.calls.specs.Limits.{Legal, max_number}

module _ (limit : ℕ) (top : limit ≤ max_number) where
  pub sum-most : (row : List ℕ) → Legal limit row → sum row ≤ max_number * length row
  sum-most [] a = omega arith
  sum-most (n ∷ row) a = omega (arith, number_is limit n a.0, sum-most row a.1)

  -- the sum of any span of a row
  pub slice-most : (row : List ℕ) (a b : ℕ) → Legal limit row → sum (slice a b row) ≤ max_number * length row
  slice-most row a b l = omega (arith, sum_drop a (take b row), sum-take b row, sum-most row l)
