use mathlib.Core.Path.{◌≡◌, refl, sym, ap, subst, ◌∙◌}
use mathlib.Core.List.{List, [], ◌∷◌, ◌++◌}
use Prim.Native.Nat.{ℕ}
use native.Mathlib.Omega.{arith}
use lib.ListN.{take, drop}
use Rattle.fibonacci.specs.Code.{past, F, first}
use Rattle.fibonacci.specs.Leaves.{recurs_after, number_or_zero, Holds, table_row}
use Rattle.fibonacci.specs.declared.tables.TheConstants.{POSITIONS_2}
use Rattle.fibonacci.proofs.Lookup.{table_of, row_at, row-order-2, firsts-row, firsts-hold-less}
use Rattle.fibonacci.proofs.Order.first_row.Goals as goal

-- (one computation over the row's own entries; the 0 after them is of F(47))
pub returns-then-self-eq2 : goal.returns-then-self-eq2
returns-then-self-eq2 c =
    let o = c.args.self in
    let e : o.m ≡ 2 = omega arith in
    let row = row-order-2 (drop 1 POSITIONS_2 ++ (0 ∷ [])) refl (unfold recurs_after in refl) in
    subst (Holds (first o.m)) (ap (λ (m : ℕ). take 46 (table_row (first m))) e ∙ sym (ap (λ (l : List ℕ). take 46 l) row)) (firsts-hold-less o.m o.in_use)

-- (one computation over the table)
pub returns : goal.returns
unfolding table_of table_row number_or_zero first F past
returns c =
    let o = c.args.self in
    firsts-row o.m o.in_use _ (o.in_use, row_at first 3 o.m [] (omega (arith, c.if-self-eq2.false)) o.in_use.1)
