use Rattle.std.proofs.Common.{ℕ, ◌+◌, ◌-◌, ◌*◌, ◌%◌, ◌<◌, arith}
use native.Mathlib.Nat.{mod-lt}
use Rattle.std.proofs.lemmas.Nat.{one_shl, pow_pos}
use Rattle.bits.specs.Bits.{word_bits}
use Rattle.bits.proofs.Bytes.{high-below}
use Rattle.bit_moves.proofs.Splices.{spliced}
use Rattle.bit_moves.proofs.splice.Goals as goal

pub three-first-requires : goal.three-first-requires
three-first-requires c =
    let p : ℕ = 8 * c.div_ceil-source.result - (c.args.at + c.args.old) in
    let few : p < 8 = omega (arith, c.div_ceil-source.ensures) in
    (omega arith, high-below c.from.result (c.args.at % 8) (omega arith) (omega arith), rw (one_shl p 64 (omega arith)) (mod-lt c.from-2.result (pow_pos p)))

pub returns : goal.returns
returns c =
    let a = c.args in
    let p : ℕ = 8 * c.div_ceil-source.result - (a.at + a.old) in
    let few : p < 8 = omega (arith, c.div_ceil-source.ensures) in
    let bits = rw (one_shl p 64 (omega arith)) at c.three-first.ensures in
    let m = c.move_words-moved in
    spliced a.s.now a.used a.at a.old (word_bits a.word.len a.word.bits) (omega arith) (omega arith) (omega arith) c.div_ceil-source.result
    (omega (arith, c.div_ceil-source.ensures)) (omega (arith, c.div_ceil-source.ensures)) _ _ a.end m.result.next m.result.word c.three-first.result _
    c.from.result c.from-2.result (omega arith) m.ensures.1 m.ensures.0 c.from.ensures c.from-2.ensures bits c.move_last.ensures
