use native.Mathlib.Omega.{arith}
use Rattle.fibonacci.specs.Code.{first}
use Rattle.fibonacci.proofs.Numbers.{first_pos}
use Rattle.fibonacci.proofs.Lookup.{number-kept, number-none, number-some}
use Rattle.reading.proofs.number.Goals as goal

pub returns-then-least-eq0 : goal.returns-then-least-eq0
returns-then-least-eq0 c =
    let a = c.args in
    let none = number-none (first a.order.m a.len) (first_pos a.order.m a.len) (omega arith) in
    (λ h. absurd (omega (arith, none)), λ h. omega arith)

pub overflow_add-result : goal.overflow_add-result
overflow_add-result c =
    let a = c.args in
    let some = number-some (first a.order.m a.len) (λ e. omega arith) in
    omega (arith, number-kept _ some)

pub returns-else-least-eq0 : goal.returns-else-least-eq0
returns-else-least-eq0 c =
    let a = c.args in
    let some = number-some (first a.order.m a.len) (λ e. omega arith) in
    (λ h. omega (arith, number-kept _ some), λ h. absurd (omega (arith, some)))
