use mathlib.Core.Path.{◌≡◌, refl, sym, ap, ◌∙◌}
use Prim.Native.Nat.{ℕ, ◌+◌, ◌-◌, ◌≤◌, ◌<◌, ◌*◌, ◌/◌, ◌%◌, ◌^◌}
use native.Mathlib.Omega.{arith}
use lib.Bits.{bit_and, and_le_l}
use Rattle.bits.specs.Bits.{word_bits}
use Rattle.bits.proofs.Words.{words-length}
use Rattle.word_windows.specs.Leaves.{run_starts, RunStarts}
use Rattle.word_windows.proofs.Starts.{starts-one, run-starts-join}
use Rattle.word_windows.proofs.run_starts.Goals as goal

-- one step: j ones become j + k
joined : (w j k m x : ℕ) → RunStarts j w x → 1 ≤ j → k ≤ j → k ≤ 64 → j + k ≡ m → RunStarts m w (bit_and x (x * 2 ^ k % 2 ^ 64))
joined w j k m x e p h l is = (
  run-starts-join 64 j k x (word_bits 64 w) (words-length 64 w) e.0 p h l ∙ ap (λ (i : ℕ). run_starts i (word_bits 64 w)) is,
  omega (arith, and_le_l x (x * 2 ^ k % 2 ^ 64), e.1),
)

pair : (w m : ℕ) → w < 2 ^ 64 → m ≡ 2 → RunStarts m w (bit_and w (w * 2 ^ 1 % 2 ^ 64))
pair w m h e = joined w 1 1 m w (sym (starts-one (word_bits 64 w)), h) (omega arith) (omega arith) (omega arith) (omega arith)

pub returns-then-m-eq2 : goal.returns-then-m-eq2
returns-then-m-eq2 c = pair c.args.w c.args.order.m c.ranges.w.fits (omega arith)

pub returns-then-m-le4 : goal.returns-then-m-le4
returns-then-m-le4 c =
    joined c.args.w 2 (c.m-m.result / 2) c.args.order.m _ (pair c.args.w 2 c.ranges.w.fits refl) (omega arith) (omega arith) (omega arith) (omega arith)

pub returns : goal.returns
returns c =
    let w = c.args.w in
    let four = joined w 2 2 4 _ (pair w 2 c.ranges.w.fits refl) (omega arith) (omega arith) (omega arith) refl in
    joined w 4 (c.m-m.result - 4) c.args.order.m _ four (omega arith) (omega arith) (omega arith) (omega arith)
