use Rattle.std.proofs.Common.{◌-◌, ◌*◌, ◌/◌, ◌^◌, ◌≤◌}
use Rattle.bits.specs.Bits.{word_bits}
use Rattle.fibonacci.specs.Code.{value}
use Rattle.calls.specs.Limits.{max_number}
use Rattle.digit_values.specs.Leaves.{Saturated}
use Rattle.digit_values.proofs.first_bytes.Given as goal

abbrev pub invariant-loop-c : goal.invariant-loop-c
invariant-loop-c l = record {
  is : Saturated (value l.order.m 1 (word_bits (8 * l.c) (l.x / 2 ^ (64 - 8 * l.c)))) l.sum;
  few : l.sum ≤ l.c * max_number;
}
