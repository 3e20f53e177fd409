use Prim.Native.Nat.{◌+◌, ◌-◌, ◌^◌, ◌≤◌, min}
use Rattle.codewords.specs.Leaves.{low_count, HighDigits}
use Rattle.codewords.proofs.high_digits.Given as goal

abbrev pub invariant-loop-j : goal.invariant-loop-j
invariant-loop-j l = record {
  stop : min l.d (low_count l.order.m) ≤ l.j;
  short : l.order.m + l.d ≤ 47;
  least : 2 ^ 32 ≤ l.above;
  most : l.above ≤ 2 ^ 32 + l.n;
  high : HighDigits l.order.m l.n l.d l.j (l.above - 2 ^ 32) l.word;
}
