use Rattle.std.proofs.Common.{arith, ◌+◌, ◌*◌, ◌<◌, length}
use Rattle.dense_decoder.proofs.Front.{Passed, finished-next, passed_none, passed-more, passed-number, passed-past}
use Rattle.dense_decoder.proofs.Codewords.finish.Goals as goal
use Rattle.dense_decoder.proofs.Codewords.finish.Goals.{Else-last-s, After-from}

pub loop-b-init : goal.loop-b-init
loop-b-init c = record { inside = c.requires.0; small = c.requires.1; passed = passed_none _ _ _ _ }

pub returns-then-last-s : goal.returns-then-last-s
returns-then-last-s c =
    let told = rw (c.from-s.ensures, c.s.ensures) at c.numbered.ensures in
    passed-number _ _ _ _ _ _ c.loop-b.invariant.passed _ _ _ c.loop-b.invariant.inside c.from-last.ensures (omega arith) told

-- the byte at hand is a continuer: another comes, and it makes the next string
later : (c : Else-last-s) → c.loop-b.i + 1 < length c.args.self.bytes.now
later c = finished-next _ _ c.args.self.finished _ c.loop-b.invariant.inside c.from-last.ensures (omega arith)

next : (c : After-from) → Passed c.args.self.stoppers.s c.args.self.bytes.now c.args.from c.args.y (c.loop-b.i + 1) (c.loop-b.string * c.from-c.result + c.from.result)
next c =
    rw (c.from-c.ensures, c.continuers.ensures)
    (passed-more _ _ _ _ _ _ c.loop-b.invariant.passed c.from-last.result _ c.loop-b.invariant.inside c.from-last.ensures (omega arith) (omega arith))

pub returns-then-limit-string : goal.returns-then-limit-string
returns-then-limit-string c =
    let at = goal.at.returns-then-limit-string c in
    passed-past _ _ _ _ _ _ (next at.After-from) _ c.args.self.stoppers.legal c.args.self.finished (later at.Else-last-s) (omega arith)

pub loop-b-preserved : goal.loop-b-preserved
loop-b-preserved c =
    let at = goal.at.loop-b-preserved c in
    record { inside = later at.Else-last-s; small = omega arith; passed = next at.After-from }
