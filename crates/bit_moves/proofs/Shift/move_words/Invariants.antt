use Prim.Native.Nat.{◌-◌}
use Rattle.bit_moves.specs.Leaves.{all_moved, MovedTo}
use Rattle.bit_moves.proofs.Shift.move_words.Given as goal

abbrev pub invariant-loop-next : goal.invariant-loop-next
invariant-loop-next l = MovedTo l.self (all_moved l.self l.initial.s l.fn.from) l.initial.s l.s (record { next = l.next; word = l.word })

abbrev pub decreases-loop-next : goal.decreases-loop-next
decreases-loop-next l = l.self.used - l.next
