use Rattle.std.proofs.Common.{rules, ◌≡◌, ◌+◌, ◌^◌, ◌<◌, ℕ, arith, ap₂, ◌∙◌, true}
use Rattle.std.proofs.Math.Facts.{Fits-lt-pow}
use Rattle.std.specs.List.{sum_by}
use lib.Count.{ones}
use Rattle.bits.specs.Bits.{count, unpack}
use Rattle.rank_select.proofs.Sums.{of_words, of_bytes, all-ones, few-ones}
use Rattle.rank_select.proofs.ones.Goals as goal
use Rattle.rank_select.proofs.ones.Goals.{After-sum-of_bytes}

both : (c : After-sum-of_bytes) → c.sum-of_words.result + c.sum-of_bytes.result ≡ of_words c.args.s.now + of_bytes c.args.s.now
both c =
    let words : c.sum-of_words.result ≡ sum_by (λ w. count true (unpack w)) c.as_chunks.result.0.now = search rules in
    let bytes : c.sum-of_bytes.result ≡ sum_by (λ b. ones b) c.as_chunks.result.1.now = search rules in
    ap₂ (λ (x y : ℕ). x + y) (rw c.as_chunks.ensures.front at words) (rw c.as_chunks.ensures.back at bytes)

pub returns : goal.returns
returns c = both c ∙ all-ones c.args.s.now (λ i. Fits-lt-pow (c.type_inv.s i))

pub overflow_add-result : goal.overflow_add-result
overflow_add-result c = omega (arith, both c, few-ones c.args.s.now (λ i. Fits-lt-pow (c.type_inv.s i)))

pub sum-of_words-requires-clause-fits : goal.sum-of_words-requires-clause-fits
sum-of_words-requires-clause-fits c =
    let few : sum_by (λ w. count true (unpack w)) c.as_chunks.result.0.now < 2 ^ 64 =
    rw c.as_chunks.ensures.front (omega (arith, few-ones c.args.s.now (λ i. Fits-lt-pow (c.type_inv.s i)))) in
    search rules

pub sum-of_bytes-requires-clause-fits : goal.sum-of_bytes-requires-clause-fits
sum-of_bytes-requires-clause-fits c =
    let few : sum_by (λ b. ones b) c.as_chunks.result.1.now < 2 ^ 64 =
    rw c.as_chunks.ensures.back (omega (arith, few-ones c.args.s.now (λ i. Fits-lt-pow (c.type_inv.s i)))) in
    search rules
