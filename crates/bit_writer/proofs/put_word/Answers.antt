use native.Mathlib.Omega.{arith}
use Rattle.bits.proofs.Put.{put-stored-at}
use Rattle.bit_writer.proofs.put_word.Goals as goal

pub returns : goal.returns
returns c =
    put-stored-at c.args.s.now _ c.args.o c.div_ceil-count.result c.joined-all.result c.args.word.len c.args.word.bits
    (omega arith) (omega arith) (omega arith) (omega arith) c.joined-all.ensures c.store.ensures
