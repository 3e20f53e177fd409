-- Totals of the numbers of an encoding (paper 01, "When a call says no": Total, Runner; paper 02, R-1). The checks stand in the papers' order.
use Rattle.std.specs.Prelude.{not, List, ℕ, ◌*◌, ◌-◌, ltb, length, Ok}
use Rattle.std.proofs.Math.Seq.{slice}
use Rattle.lists.specs.Lists.{sum}
use Rattle.calls.specs.declared.Refusal.TheVariants.{BadOrder, BadSpan, BadRepeats, TooMuchShared}
use Rattle.calls.specs.Calls.{Outcome, check, and_then}
use Rattle.calls.specs.Limits.{is_order, max_number, within}
use Rattle.calls.specs.Reading.{decode}
use Rattle.reading.specs.Reading.{fibonacci}

-- Total from a, up to but without b: 8 a above b or b above the count; else the sum
unfoldable pub total : ℕ → List ℕ → ℕ → ℕ → Outcome ℕ
total m s a b = check BadOrder (not (is_order m)) (and_then (decode (fibonacci m) max_number s) (λ row.
    check BadSpan (ltb b a)
    (check BadSpan (ltb (length row) b)
    (Ok (sum (slice a b row))))))

-- Repeated total (paper 01: the runner's width, of r repeats; paper 02: each shares knots with the next): 14 r not 1 to 10,000; 15 more is shared than the row's
-- total; else r times the row's total, less (r - 1) times what is shared
unfoldable pub repeated_total : ℕ → List ℕ → ℕ → ℕ → Outcome ℕ
repeated_total m s r shared = check BadOrder (not (is_order m)) (and_then (decode (fibonacci m) max_number s) (λ row.
    check BadRepeats (not (within 1 10000 r))
    (check TooMuchShared (ltb (sum row) shared)
    (Ok (r * sum row - (r - 1) * shared)))))
