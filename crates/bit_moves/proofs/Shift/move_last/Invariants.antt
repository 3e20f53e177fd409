use mathlib.Core.Path.{◌≡◌}
use Prim.Native.Nat.{◌-◌, ◌*◌, ◌≤◌}
use lib.ListN.{length, drop}
use Rattle.bits.specs.Leaves.{fit}
use Rattle.bit_moves.specs.Leaves.{all_moved}
use Rattle.bit_moves.proofs.Shift.move_last.Given as goal

abbrev pub invariant-loop-next : goal.invariant-loop-next
invariant-loop-next l =
    let now = all_moved l.self l.s (record { next = l.next; word = l.word }) in
    (l.next ≤ l.end) × (length l.s ≡ length l.initial.s) × (drop l.end l.s ≡ drop l.end l.initial.s)
    × (fit (8 * l.end) now ≡ fit (8 * l.end) (all_moved l.self l.initial.s l.fn.from))

abbrev pub decreases-loop-next : goal.decreases-loop-next
decreases-loop-next l = l.end - l.next
