use mathlib.Core.Path.{ap, ◌∙◌}
use mathlib.Core.Bool.{Bool}
use mathlib.Core.List.{List}
use Prim.Native.Nat.{ℕ, ◌+◌, ◌-◌, ◌*◌, ◌/◌, ◌%◌, ◌^◌, min}
use native.Mathlib.Omega.{arith}
use lib.ListN.{get_or}
use Rattle.bits.proofs.Words.{words-mod}
use Rattle.fibonacci.specs.Code.{value}
use Rattle.calls.specs.Limits.{max_number}
use Rattle.digit_values.proofs.Bytes.{entry_at}
use Rattle.digit_values.proofs.entry.Goals as goal

pub returns-clause-is : goal.returns-clause-is
returns-clause-is c =
    let m = c.args.order.m in
    let j : ℕ = 8 * c.args.c + 1 in
    let y : ℕ = c.args.x / 2 ^ (56 - 8 * c.args.c) in
    c.from.ensures ∙ ap (λ (l : List ℕ). get_or l (256 * c.args.c + y % 256) 0) c.values-values.ensures
    ∙ entry_at m c.args.c (y % 256) c.requires (omega arith) ∙ ap (λ (b : List Bool). min max_number (value m j b)) (words-mod 8 8 y (omega arith))
