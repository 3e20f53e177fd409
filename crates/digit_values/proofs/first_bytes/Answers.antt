use native.Mathlib.Omega.{arith}
use Rattle.bits.specs.Bits.{word_bits}
use Rattle.fibonacci.specs.Code.{value}
use Rattle.digit_values.proofs.Bytes.{saturated-more}
use Rattle.digit_values.proofs.first_bytes.Goals as goal

pub loop-c-init : goal.loop-c-init
unfolding value word_bits
loop-c-init c = record { is = (λ h. omega arith, λ h. omega arith); few = omega arith }

pub loop-c-preserved : goal.loop-c-preserved
loop-c-preserved c =
    let l = c.loop-c in
    record {
      is = saturated-more c.args.order.m c.args.x l.c l.sum c.entry-sum.result (omega arith) l.invariant.is c.entry-sum.ensures.is;
      few = omega arith;
    }
