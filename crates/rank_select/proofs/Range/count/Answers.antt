use mathlib.Core.Path.{◌≡◌, ap, ◌∙◌}
use mathlib.Core.Bool.{Bool, true, false}
use mathlib.Core.List.{List}
use Prim.Native.Nat.{ℕ, ◌+◌, ◌-◌, ◌/◌, ◌%◌}
use native.Mathlib.Omega.{arith}
use lib.ListN.{length, take, drop, length-take, length-drop}
use Rattle.bits.specs.Bits.{unpack, count}
use Rattle.bits.proofs.Bytes.{unpack-length}
use Rattle.bits.proofs.Count.{count-both}
use Rattle.bits.proofs.Select.{part-bits}
use Rattle.rank_select.specs.declared.Range.{Range}
use Rattle.rank_select.specs.Leaves.{range, bits_of}
use Rattle.rank_select.proofs.Range.count.Goals as goal

-- n ones, counted in the part of the bytes from that of the first bit on
module _ (r : Range) {n : ℕ} (counted : n ≡ count true (range (r.from % 8) r.len (take (length r.bytes.now - r.from / 8) (drop (r.from / 8) r.bytes.now)))) where
  ones : n ≡ count true (bits_of r)
  ones = counted ∙ ap (λ (b : List Bool). count true (take r.len b)) (part-bits r.bytes.now r.from)

  zeros : n + count false (bits_of r) ≡ r.len
  zeros =
      let b : List Bool = drop r.from (unpack r.bytes.now) in
      omega (arith, ones, r.within, count-both (take r.len b), length-take r.len b, length-drop r.from (unpack r.bytes.now), unpack-length r.bytes.now)

pub overflow_sub-result : goal.overflow_sub-result
overflow_sub-result c = omega (arith, zeros c.args.self c.ones_from-ones.ensures)

pub returns-then-v : goal.returns-then-v
returns-then-v c = rw c.if-v.true (ones c.args.self c.ones_from-ones.ensures)

pub returns-else-v : goal.returns-else-v
returns-else-v c = rw c.if-v.false (omega (arith, zeros c.args.self c.ones_from-ones.ensures))
