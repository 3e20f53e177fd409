-- What is found in an input.
use Rattle.std.specs.Prelude.{not, List, map, ℕ, Ok}
use Rattle.calls.specs.declared.Refusal.TheVariants.{BadLine}
use Rattle.calls.specs.Calls.{Outcome, check}
use Rattle.fibonacci.specs.Leaves.{number_or_zero}
use Rattle.listing_input.specs.Input.{fields, is_input}

-- The numbers of an input, one above the largest as 0: 13 a line of another form, or no line
unfoldable pub parsed : List ℕ → Outcome (List ℕ)
parsed s = check BadLine (not (is_input s)) (Ok (map number_or_zero (fields s)))
