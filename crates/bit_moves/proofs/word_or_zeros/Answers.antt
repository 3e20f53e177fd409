use mathlib.Core.Path.{ap, ◌∙◌}
use mathlib.Core.List.{List}
use Prim.Native.Nat.{ℕ}
use Rattle.std.proofs.Math.Facts.{Fits-lt-pow}
use Rattle.bits.specs.Bits.{unpack}
use Rattle.bits.specs.Leaves.{fit}
use Rattle.bits.proofs.Packing.{bytes_drop, bytes_take}
use Rattle.bit_moves.proofs.Words.{rest-of, word_filled}
use Rattle.bit_moves.proofs.word_or_zeros.Goals as goal

pub returns : goal.returns
returns c =
    let a = c.args in
    let bytes = bytes_take _ _ (bytes_drop c.min.result a.s.now (λ i. Fits-lt-pow (c.type_inv.s i))) in
    word_filled _ c.min-n.result c.min-n.ensures bytes c.copy_from_slice.ensures.after c.from_be_bytes.ensures
    ∙ ap (λ (l : List ℕ). fit 64 (unpack l)) (rest-of a.s.now a.j c.min.result c.min.ensures)
