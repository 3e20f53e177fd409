use native.Mathlib.Omega.{arith}
use Rattle.bits.proofs.Put.{put-stored}
use Rattle.bit_writer.proofs.put_over.Goals as goal

pub returns : goal.returns
returns c =
    put-stored c.args.s.now _ c.args.o 8 c.joined-all.result _ (omega arith) (omega arith) (omega arith) c.joined-all.ensures c.store.ensures
