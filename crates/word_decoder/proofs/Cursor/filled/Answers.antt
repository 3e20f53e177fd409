use native.Mathlib.Omega.{arith}
use Rattle.word_decoder.proofs.Taking.{windowed_at, stuck-window}
use Rattle.word_decoder.proofs.Cursor.filled.Goals as goal

pub returns-then-window-eq0 : goal.returns-then-window-eq0
returns-then-window-eq0 c =
    stuck-window _ _ _ _ _ (omega (arith, c.args.self.now.encoding.order.in_use)) c.window_at-window.ensures c.if-window-eq0.true

pub returns : goal.returns
returns c =
    let a = c.window_at-window.ensures in
    record { windowed = windowed_at _ _ _ a.window; starts_are = a.starts_are; some = omega arith }
