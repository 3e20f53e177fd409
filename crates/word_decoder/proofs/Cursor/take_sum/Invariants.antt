use Rattle.std.proofs.Common.{◌≡◌, ◌*◌, ◌≤◌, ℕ, List, length}
use Rattle.lists.specs.Lists.{sum}
use Rattle.bits.specs.Bits.{unpack}
use Rattle.calls.specs.Limits.{max_number}
use Rattle.word_decoder.specs.Leaves.{Taken}
use Rattle.word_decoder.proofs.Cursor.take_sum.Given as goal

abbrev pub invariant-loop-count : goal.invariant-loop-count
invariant-loop-count l =
    let e = l.fn.self.encoding in
    record {
      same : l.self.encoding ≡ e;
      row : List ℕ;
      taken : Taken e.order.m e.limit (unpack e.bytes.now) l.fn.self.bit l.self.bit row;
      many : length row ≡ l.count;
      total : l.sum ≡ sum row;
      little : l.sum ≤ max_number * l.count;
    }
