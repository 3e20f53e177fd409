use mathlib.Core.Path.{ap₂}
use Prim.Native.Nat.{ℕ}
use native.Mathlib.Numerals.{add-one, add-two}
use lib.ListN.{set}
use Rattle.table_scan.proofs.put.Goals as goal

pub returns : goal.returns
returns c =
    let a = c.args in
    ap₂ (λ (j k : ℕ). set (set (set a.row.now a.i a.first) j a.second) k a.third) (add-one a.i) (add-two a.i)
