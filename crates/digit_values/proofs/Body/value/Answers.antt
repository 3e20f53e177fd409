use native.Mathlib.Omega.{arith}
use Rattle.digit_values.proofs.Bytes.{saturated-first}
use Rattle.digit_values.proofs.Body.value.Goals as goal

pub returns-then-self-le17-clause-is : goal.returns-then-self-le17-clause-is
returns-then-self-le17-clause-is c =
    let b = c.args.self in
    saturated-first b.word b.len (omega arith) 16 (omega arith) (omega arith) b.is_body c.args.order.m c.masked-x.result c.first_bytes.result
    c.masked-x.ensures c.first_bytes.ensures.is

pub returns-else-self-le17-clause-is : goal.returns-else-self-le17-clause-is
returns-else-self-le17-clause-is c =
    let b = c.args.self in
    let r = c.first_bytes-else-self-le17 in
    saturated-first b.word b.len (omega arith) 48 (omega arith) (omega arith) b.is_body c.args.order.m c.masked-x.result r.result c.masked-x.ensures
    r.ensures.is
