use mathlib.Core.Path.{sym, ◌∙◌}
use native.Mathlib.Omega.{arith}
use Rattle.bits.proofs.Bytes.{unpack-length}
use Rattle.decoder.proofs.Steps.{step-many, step-large, step-number, step-rest, step_end}
use Rattle.decoder.proofs.next_number.Goals as goal

pub returns-then-not-is_padding : goal.returns-then-not-is_padding
returns-then-not-is_padding c = λ row g.
    let e = c.args.encoding in
    let r = c.in-Rest.ensures in
    step-rest e.bytes.now e.order.in_use g r.0 r.2 (sym c.is_padding.ensures ∙ c.if-not-is_padding.true)

pub returns-else-not-is_padding : goal.returns-else-not-is_padding
returns-else-not-is_padding c = λ row g.
    let e = c.args.encoding in
    let r = c.in-Rest.ensures in
    step_end e.bytes.now e.order.in_use g r.0 r.2 (sym c.is_padding.ensures ∙ c.if-not-is_padding.false)

pub returns-then-count-eq-MAX_COUNT : goal.returns-then-count-eq-MAX_COUNT
returns-then-count-eq-MAX_COUNT c = λ row g.
    let e = c.args.encoding in
    let r = c.in-Codeword.ensures in
    step-many e.bytes.now e.order.in_use g r.0 r.1 c.if-count-eq-MAX_COUNT.true

pub number-n-requires : goal.number-n-requires
number-n-requires c =
    let e = c.args.encoding in
    let p = c.in-Codeword.ensures.0 in
    omega (arith, p.small, p.within, unpack-length e.bytes.now, e.short)

pub returns-then-not-is_number : goal.returns-then-not-is_number
returns-then-not-is_number c = λ row g.
    let e = c.args.encoding in
    let r = c.in-Codeword.ensures in
    step-large e.bytes.now e.order.in_use g r.0 r.1 c.number-n.result c.number-n.ensures (omega arith) c.if-count-eq-MAX_COUNT.false
    (sym (rw c.from.ensures at c.is_number.ensures) ∙ c.if-not-is_number.true)

pub returns-else-not-is_number : goal.returns-else-not-is_number
returns-else-not-is_number c = λ row g.
    let e = c.args.encoding in
    let r = c.in-Codeword.ensures in
    step-number e.bytes.now e.order.in_use g r.0 r.1 c.number-n.result c.number-n.ensures (omega arith) c.if-count-eq-MAX_COUNT.false
    (sym (rw c.from.ensures at c.is_number.ensures) ∙ c.if-not-is_number.false)
