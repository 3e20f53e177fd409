use Rattle.std.proofs.Common.{arith, ◌+◌, ◌<◌, length}
use Rattle.dense_decoder.proofs.Front.{finished-next, front-one, front-two, front-more}
use Rattle.dense_decoder.proofs.Codewords.next.Goals as goal
use Rattle.dense_decoder.proofs.Codewords.next.Goals.{Else-first-s}

-- the first byte is a continuer, and another comes
second : (c : Else-first-s) → c.args.i + 1 < length c.args.self.bytes.now
second c = finished-next _ _ c.args.self.finished _ c.requires c.from-first.ensures (omega arith)

pub returns-then-first-s : goal.returns-then-first-s
returns-then-first-s c = front-one _ _ _ _ _ c.requires c.from-first.ensures _ (omega arith) c.numbered.ensures

pub returns-then-second-s : goal.returns-then-second-s
returns-then-second-s c =
    let told = rw (c.from-s.ensures, c.s.ensures) at c.numbered-then-second-s.ensures in
    front-two _ _ _ _ _ c.requires c.from-first.ensures (omega arith) _ (second (goal.at.returns-then-second-s c).Else-first-s) c.from-second.ensures _ (omega arith) told

pub returns : goal.returns
returns c =
    let found = rw (c.from-s.ensures, c.s.ensures, c.from-c.ensures, c.continuers.ensures) at c.finish.ensures in
    front-more _ _ _ _ _ c.requires c.from-first.ensures (omega arith) _ (second (goal.at.returns c).Else-first-s) c.from-second.ensures _ (omega arith) found
