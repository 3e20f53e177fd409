use mathlib.Core.Path.{sym, subst}
use Prim.Native.Nat.{◌*◌, ◌≤◌}
use native.Mathlib.Omega.{arith}
use Rattle.calls.specs.Limits.{max_count, max_number}
use Rattle.host.proofs.Fitting.{Fits, total-fits}
use Rattle.host.proofs.leadginger_total.Goals as goal

pub overflow_mul-result : goal.overflow_mul-result
overflow_mul-result c =
    let small : c.in-Ok.total ≤ max_number * max_count = subst (Fits (λ x. x ≤ max_number * max_count)) (sym c.in-Ok.ensures) (total-fits _ _ _ _) in
    record { fits = omega arith }

pub number_of-requires : goal.number_of-requires
number_of-requires c = subst (Fits (λ x. x ≤ max_number * max_count)) (sym c.in-Err.ensures) (total-fits _ _ _ _)
