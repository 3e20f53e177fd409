use mathlib.Core.Path.{refl, ◌∙◌}
use mathlib.Core.List.{[], ◌∷◌, ◌++◌}
use mathlib.Core.Logic.{inr}
use native.Mathlib.Omega.{arith}
use lib.ListN.{length-append}
use Rattle.lists.proofs.Sums.{sum-snoc}
use Rattle.bits.proofs.Bytes.{unpack-length}
use Rattle.word_decoder.proofs.Taking.{taken_none, taken-append}
use Rattle.word_decoder.proofs.Cursor.take_sum.Goals as goal

pub loop-count-init : goal.loop-count-init
loop-count-init c =
    let s = c.args.self.now in
    record {
      same = refl;
      row = [];
      taken = taken_none _ _ _ _ (omega (arith, s.within, unpack-length s.encoding.bytes.now));
      many = refl;
      total = refl;
      little = omega arith;
    }

pub returns-in_default-clause-taken : goal.returns-in_default-clause-taken
returns-in_default-clause-taken c =
    let v = c.loop-count.invariant in
    let none = rw v.same at c.in_default.ensures.taken in
    rw none.0
    (record {
      row = v.row;
      taken = v.taken;
      many = v.many;
      few = omega arith;
      total = v.total;
      stopped = inr none.1;
    })

pub overflow_add-sum : goal.overflow_add-sum
overflow_add-sum c = omega (arith, c.in-Some.ensures.few)

pub loop-count-preserved : goal.loop-count-preserved
loop-count-preserved c =
    let v = c.loop-count.invariant in
    let n = c.in-Some.n in
    record {
      same = c.next.ensures.same ∙ v.same;
      row = v.row ++ (n ∷ []);
      taken = taken-append v.taken (rw v.same at c.in-Some.ensures.taken);
      many = omega (arith, length-append v.row (n ∷ []), v.many);
      total = omega (arith, sum-snoc v.row n, v.total);
      little = omega (arith, c.in-Some.ensures.few);
    }
