use Rattle.std.proofs.Common.{arith, ◌≡◌, ℕ, refl, subst, drop, Some, None}
use Rattle.std.specs.Prelude.{Option}
use Rattle.std.proofs.lemmas.Result.{err_from_is_err_and}
use Rattle.calls.specs.declared.Refusal.TheVariants.{TooLarge}
use Rattle.calls.proofs.Decoding.{decode-long}
use Rattle.dense_decoder.specs.Reading.{dense}
use Rattle.dense_decoder.specs.Leaves.{Front}
use Rattle.dense_decoder.proofs.Scanning.{Parted, parted, stored_more, scanned-large, scanned-many, scanned-open, scanned-all}
use Rattle.dense_decoder.proofs.store_row.Goals as goal
use Rattle.dense_decoder.proofs.store_row.Goals.{After-new-codewords, After-next}

pub returns-then-b-gt-MAX_BYTES : goal.returns-then-b-gt-MAX_BYTES
returns-then-b-gt-MAX_BYTES c = rw (decode-long (dense c.args.stoppers.s) c.args.limit c.args.b.now c.if-b-gt-MAX_BYTES.true) (refl, tt)

-- the bytes are codewords and a rest
parts : (c : After-new-codewords) → Parted c.args.stoppers.s c.args.b.now c.new-codewords.result.bytes.now
parts c = let w = c.new-codewords in parted _ _ _ (rw w.ensures.same.0 at w.result.finished) w.ensures.front w.ensures.rest

-- what stands next
front : (c : After-next) (r : Option (ℕ × ℕ)) → c.next.result ≡ r
    → let b = c.new-codewords.result.bytes.now in Front c.args.stoppers.s c.args.limit b (drop c.loop-i.i b) r
front c r e =
    let w = c.new-codewords in
    rw (w.ensures.same.0, w.ensures.same.1) at (subst (Front w.result.stoppers.s w.result.limit w.result.bytes.now (drop c.loop-i.i w.result.bytes.now)) e c.next.ensures)

pub returns-then-count-eq-MAX_COUNT : goal.returns-then-count-eq-MAX_COUNT
returns-then-count-eq-MAX_COUNT c =
    let p = parts (goal.at.returns-then-count-eq-MAX_COUNT c).After-new-codewords in
    scanned-many p c.loop-i.invariant (omega arith) c.if-b-gt-MAX_BYTES.false c.if-count-eq-MAX_COUNT.true c.loop-i-test.true

pub returns-in_err-n : goal.returns-in_err-n
returns-in_err-n c =
    let at = goal.at.returns-in_err-n c in
    let none : c.next.result ≡ None = grind arith in
    let reason : c.in_err-n.field-0.0 ≡ TooLarge c.loop-i.count = grind arith in
    let x = err_from_is_err_and c.from_residual.result c.from_residual.ensures.1 in
    rw (x.1, x.2, reason) (scanned-large (parts at.After-new-codewords) c.loop-i.invariant (omega arith) c.if-b-gt-MAX_BYTES.false (omega arith) (front at.After-next _ none))

pub loop-i-preserved : goal.loop-i-preserved
loop-i-preserved c =
    let at = goal.at.loop-i-preserved c in
    let some : c.next.result ≡ Some (c.in_ok-n.n, c.in_ok-n.after) = grind arith in
    let p = parts at.After-new-codewords in
    stored_more _ _ _ _ _ _ (omega (arith, p.inside)) c.loop-i.invariant (omega arith) c.loop-i-test.true _ _ (front at.After-next _ some)

pub returns-then-i-b : goal.returns-then-i-b
returns-then-i-b c =
    let p = parts (goal.at.returns-then-i-b c).After-new-codewords in
    scanned-open p c.loop-i.invariant (omega arith) c.if-b-gt-MAX_BYTES.false c.loop-i-test.false c.if-i-b.true

pub returns : goal.returns
returns c =
    let p = parts (goal.at.returns c).After-new-codewords in
    scanned-all p c.loop-i.invariant (omega arith) c.if-b-gt-MAX_BYTES.false c.loop-i-test.false c.if-i-b.false
