use mathlib.Core.Path.{sym, ◌∙◌}
use Prim.Native.Nat.{◌<◌}
use native.Mathlib.Omega.{arith}
use lib.ListN.{length}
use Rattle.bits.specs.Bits.{unpack}
use Rattle.bits.proofs.Bytes.{unpack-length}
use Rattle.bit_decoder.proofs.Seeking.{seeking-start, seeking-zero, seeking-one, seeking-ended, seeking-left}
use Rattle.bit_decoder.proofs.seek.Goals as goal
use Rattle.bit_decoder.proofs.seek.Goals.{then-bit+else-run-m, else-bit}

pub loop-k-init : goal.loop-k-init
loop-k-init c =
    record {
      few = omega (arith, c.args.order.in_use);
      seeking = seeking-start _ _ _ (omega (arith, c.requires.within, unpack-length c.args.s.now));
    }

pub returns-then-run-m : goal.returns-then-run-m
returns-then-run-m c =
    let v = c.loop-k.invariant in
    let inside : c.loop-k.k < length (unpack c.args.s.now) = omega (arith, unpack-length c.args.s.now) in
    seeking-ended (seeking-one v.seeking (omega arith) inside v.few (sym c.bit.ensures ∙ c.if-bit.true)) (omega arith) (omega arith)

pub loop-k-preserved : goal.loop-k-preserved
loop-k-preserved c =
    let v = c.loop-k.invariant in
    let inside : c.loop-k.k < length (unpack c.args.s.now) = omega (arith, unpack-length c.args.s.now) in
    elim c.if-bit.branch [
      | then-bit+else-run-m w ↦
          record {
            few = omega (arith, w.run-is, v.few, w.if-run-m.false);
            seeking = rw (w.len-is, w.val-is, w.run-is) (seeking-one v.seeking (omega arith) inside v.few (sym c.bit.ensures ∙ w.if-bit.true));
          }
      | else-bit w ↦
          let x = w.ones_value-val in
          record {
            few = omega (arith, w.run-is, v.few);
            seeking =
                rw (w.len-is, w.val-is, w.run-is)
                (seeking-zero v.seeking (omega arith) inside v.few x.result (sym c.bit.ensures ∙ w.if-bit.false) x.ensures.is x.ensures.few);
          }
    ]

pub returns : goal.returns
returns c =
    let v = c.loop-k.invariant in
    seeking-left v.seeking (omega (arith, v.few)) v.few (omega (arith, c.requires.within, unpack-length c.args.s.now))
