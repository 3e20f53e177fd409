use mathlib.Core.Path.{ap, ◌∙◌}
use mathlib.Core.List.{List, ◌++◌}
use Prim.Native.Nat.{ℕ}
use lib.ListN.{drop}
use Rattle.bits.proofs.Put.{low_bytes}
use Rattle.bit_writer.proofs.store.Goals as goal

pub returns : goal.returns
returns c =
    ap (λ (l : List ℕ). l ++ drop c.args.n c.args.s.now) (c.copy_from_slice.ensures.after ∙ low_bytes c.args.n c.args.w c.requires.0 c.to_be_bytes.ensures)
