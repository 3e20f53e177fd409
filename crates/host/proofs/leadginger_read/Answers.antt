use mathlib.Core.Path.{sym, subst}
use Prim.Native.Nat.{◌≤◌}
use native.Mathlib.Omega.{arith}
use Rattle.calls.specs.Limits.{max_count}
use Rattle.host.proofs.Fitting.{Fits, bytes_fit}
use Rattle.host.proofs.leadginger_read.Goals as goal

pub overflow_mul-result : goal.overflow_mul-result
overflow_mul-result c =
    let few : c.in-Ok.count ≤ max_count = subst (Fits (λ n. n ≤ max_count)) (sym c.in-Ok.ensures.0) (bytes_fit _ _) in
    record { fits = omega arith }

pub number_of-requires : goal.number_of-requires
number_of-requires c = subst (Fits (λ n. n ≤ max_count)) (sym c.in-Err.ensures.0) (bytes_fit _ _)
