use Prim.Native.Nat.{ℕ, ◌+◌, ◌*◌, ◌/◌, ◌%◌, ◌^◌, ◌<◌}
use mathlib.Core.List.{List}
use mathlib.Core.Path.{◌≡◌, ap, ◌∙◌}
use native.Mathlib.Omega.{arith}
use lib.ListN.{get_or}
use lib.Pow.{pow_mono}
use Rattle.bits.specs.Bits.{word_bits}
use Rattle.fibonacci.specs.Code.{codeword}
use Rattle.codewords.proofs.Codewords.{within, high_looked_up}
use Rattle.codewords.proofs.codeword.Goals as goal
use Rattle.codewords.proofs.codeword.Goals.{After-low_count}

pub bounds-low_digits-left : goal.bounds-low_digits-left
bounds-low_digits-left c = let o = c.args.order in within o.m c.args.n c.body_length-d.result _ _ o.in_use c.high_digits-high.ensures

-- the word
made : (c : After-low_count)
    → let len = c.body_length-d.result + c.m.result in
    let r = c.high_digits-high.result.word + c.from-digits.result * 2 ^ len % 2 ^ 64 / 2 ^ c.low_count.result in
    (word_bits len r ≡ codeword c.args.order.m c.args.n) × (r < 2 ^ len)
made c =
    let o = c.args.order in
    let h = c.high_digits-high in
    high_looked_up o.m c.args.n c.body_length-d.result h.result.left h.result.word o.in_use h.ensures c.low_count.result
    (c.body_length-d.result + c.m.result) c.from-digits.result c.low_count.ensures.0 c.low_count.ensures.1 (omega arith) (omega arith)
    (c.from-digits.ensures ∙ ap (λ (l : List ℕ). get_or l h.result.left 0) c.low_digits.ensures)

pub overflow_add-bits : goal.overflow_add-bits
overflow_add-bits c =
    let r = made (goal.at.overflow_add-bits c).After-low_count in
    record { fits = omega (arith, r.1, pow_mono {i = c.body_length-d.result + c.m.result} {j = 63} (omega arith)) }

pub invariant_of-result : goal.invariant_of-result
invariant_of-result c = record { fits = (omega arith, omega arith, (made (goal.at.invariant_of-result c).After-low_count).1) }

pub returns : goal.returns
returns c = ((made (goal.at.returns c).After-low_count).0, omega arith, omega arith)
