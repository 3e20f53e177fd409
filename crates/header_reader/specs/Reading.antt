-- The header that reading an encoding gives (paper 02, R-4). The checks stand in the papers' order.
use Rattle.std.specs.Prelude.{not, List, ℕ, Ok}
use Rattle.calls.specs.declared.Refusal.TheVariants.{BadOrder}
use Rattle.calls.specs.Calls.{Outcome, check, and_then}
use Rattle.calls.specs.Limits.{is_order, max_number}
use Rattle.calls.specs.Reading.{decode}
use Rattle.reading.specs.Reading.{fibonacci}
use Rattle.headers.specs.declared.Header.{Header}
use Rattle.headers.specs.Headers.{header_of}

-- The header of an encoding: 1; 2, then 4 and 7, 6 as reading has them; else the header of the row that is read
unfoldable pub read_header : ℕ → List ℕ → Outcome Header
read_header m s = check BadOrder (not (is_order m)) (and_then (decode (fibonacci m) max_number s) (λ row. Ok (header_of m row)))
