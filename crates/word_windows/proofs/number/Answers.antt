use mathlib.Core.Path.{refl}
use native.Mathlib.Omega.{arith}
use Rattle.fibonacci.specs.Code.{first}
use Rattle.calls.specs.Limits.{is_number}
use Rattle.fibonacci.proofs.Numbers.{first_pos}
use Rattle.fibonacci.proofs.Lookup.{number-none, number-some, first-few, first-within}
use Rattle.word_windows.proofs.Found.{judged}
use Rattle.word_windows.proofs.number.Goals as goal

pub returns-then-body-le9-clause-is : goal.returns-then-body-le9-clause-is
returns-then-body-le9-clause-is c =
    let o = c.args.order in
    let b = c.args.body in
    judged o.m b.len _ _ _ c.first_number.ensures (first-few o.m b.len o.in_use c.if-body-le9.true) c.byte_value.ensures.is

pub returns-then-least-eq0-clause-is : goal.returns-then-least-eq0-clause-is
unfolding is_number
returns-then-least-eq0-clause-is c =
    let x = first c.args.order.m c.args.body.len in
    let none = number-none x (first_pos _ _) (omega arith) in
    (λ h. absurd (omega (arith, none)), λ h. refl)

pub value-requires : goal.value-requires
value-requires c =
    let o = c.args.order in
    let b = c.args.body in
    let some = number-some (first o.m b.len) (λ e. omega (arith, c.if-least-eq0.false)) in
    omega (arith, first-within o.m o.in_use b.len some)

pub returns-clause-is : goal.returns-clause-is
returns-clause-is c =
    let o = c.args.order in
    let b = c.args.body in
    judged o.m b.len _ _ _ c.first_number-least.ensures (number-some _ (λ e. omega (arith, c.if-least-eq0.false))) c.value.ensures.is
