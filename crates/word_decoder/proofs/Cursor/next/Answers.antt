use mathlib.Core.Path.{refl, sym, ◌∙◌}
use native.Mathlib.Omega.{arith}
use Rattle.bits.proofs.Bytes.{unpack-length}
use Rattle.calls.proofs.Checks.{number_is}
use Rattle.word_decoder.proofs.Taking.{word-zero, word-within, next-starts, next-windowed, large-number, size-less, number-taken}
use Rattle.word_decoder.proofs.Cursor.next.Goals as goal

pub returns-in_err-window-clause-taken : goal.returns-in_err-window-clause-taken
returns-in_err-window-clause-taken c = rw c.from_residual.ensures (refl, c.in_err-window.ensures)

pub invariant_of-body : goal.invariant_of-body
invariant_of-body c = record { is_body = word-zero c.args.self.now.encoding.order.in_use c.in_ok-window.ensures }

pub returns-then-not-is_number-clause-taken : goal.returns-then-not-is_number-clause-taken
returns-then-not-is_number-clause-taken c =
    let e = c.args.self.now.encoding in (
      refl,
      large-number e.order.in_use c.in_ok-window.ensures e.limit _ c.number-n.ensures.is (omega arith) (sym (rw c.from.ensures at c.is_number.ensures) ∙ c.if-not-is_number.true),
    )

pub overflow_shl-self : goal.overflow_shl-self
overflow_shl-self c =
    let e = c.args.self.now.encoding in
    let legal = sym (rw c.from.ensures at c.is_number.ensures) ∙ c.if-not-is_number.false in
    omega (arith, size-less e.order.in_use c.in_ok-window.ensures e.limit _ c.number-n.ensures.is (omega arith) legal)

pub overflow_shl-self-2 : goal.overflow_shl-self-2
overflow_shl-self-2 c =
    let e = c.args.self.now.encoding in
    let legal = sym (rw c.from.ensures at c.is_number.ensures) ∙ c.if-not-is_number.false in
    omega (arith, size-less e.order.in_use c.in_ok-window.ensures e.limit _ c.number-n.ensures.is (omega arith) legal)

pub invariant_of-self : goal.invariant_of-self
invariant_of-self c =
    let o = c.args.self.now.encoding.order.in_use in
    let f = c.in_ok-window.ensures in
    rw c.m.ensures (record {
      within = omega (arith, word-within o f, unpack-length c.args.self.now.encoding.bytes.now);
      windowed = next-windowed o f;
      starts_are = next-starts o f;
    })

pub returns-clause-taken : goal.returns-clause-taken
returns-clause-taken c =
    let e = c.args.self.now.encoding in
    rw c.m.ensures
    (number-taken e.order.in_use c.in_ok-window.ensures e.limit _ c.number-n.ensures.is (omega arith) (sym (rw c.from.ensures at c.is_number.ensures) ∙ c.if-not-is_number.false))

pub returns-clause-few : goal.returns-clause-few
returns-clause-few c =
    let legal = number_is c.args.self.now.encoding.limit c.number-n.result (sym (rw c.from.ensures at c.is_number.ensures) ∙ c.if-not-is_number.false) in
    omega (arith, legal)
