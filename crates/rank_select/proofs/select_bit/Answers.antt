use native.Mathlib.Omega.{arith}
use lib.ListN.{take, drop, length-take}
use Rattle.bits.specs.Bits.{unpack}
use Rattle.bits.proofs.Select.{select-near}
use Rattle.rank_select.proofs.select_bit.Goals as goal

pub returns : goal.returns
returns c =
    let a = c.args in
    let b = take a.k (drop a.from (unpack a.s.now)) in
    let r = c.skip-bits in
    let short = length-take a.k (drop a.from (unpack a.s.now)) in
    omega (
      arith,
      c.skip-words.ensures.1,
      c.skip-bytes.ensures.1,
      r.ensures.1,
      select-near a.v r.result.left a.k r.result.at _ b (omega arith) r.ensures.0 r.ensures.2,
    )
