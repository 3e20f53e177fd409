use mathlib.Core.List.{[]}
use Rattle.bits.specs.Bits.{word_of}
use Rattle.fibonacci.specs.Code.{past, F, digits}
use Rattle.codewords.specs.Leaves.{low_count, low_word, low_digits}
use Rattle.codewords.proofs.Codewords.{low-row}
use Rattle.codewords.proofs.low_digits.Goals as goal

-- (one computation over the table)
pub returns : goal.returns
unfolding low_digits low_word low_count word_of digits F past
returns c = rw c.m.ensures (low-row c.args.order.m [] c.args.order.in_use)
