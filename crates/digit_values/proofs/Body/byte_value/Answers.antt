use native.Mathlib.Omega.{arith}
use Rattle.digit_values.proofs.Bytes.{saturated-first}
use Rattle.digit_values.proofs.Body.byte_value.Goals as goal

pub returns-clause-is : goal.returns-clause-is
returns-clause-is c =
    let b = c.args.self in
    saturated-first b.word b.len (omega arith) 8 (omega arith) (omega arith) b.is_body c.args.order.m c.masked.result c.first_bytes.result c.masked.ensures
    c.first_bytes.ensures.is
