-- Rows of position values and of first numbers, as far as the largest number needs them.
use Rattle.std.specs.Prelude.{◌≡◌, Bool, true, false, ◌&&◌, List, [], ◌∷◌, ℕ, leb, eqb, length, take, get_or, replicate}
use Rattle.lists.specs.Lists.{sum, values_from}
use Rattle.calls.specs.Limits.{Order, max_number}
use Rattle.fibonacci.specs.Code.{first}

-- ## The position values, by the recurrence over a row's own entries

-- The entries that are left, after those before them, the last first: each is the sum of the m before it, as long as that is at most the largest number; from
-- there on all are 0
unfoldable pub recurs_after : ℕ → List ℕ → List ℕ → Bool
recurs_after m before [] = true
recurs_after m before (e ∷ es) =
    elim (leb (sum (take m before)) max_number) [ true ↦ eqb e (sum (take m before)) && recurs_after m (e ∷ before) es | false ↦ eqb (sum (e ∷ es)) 0 ]

-- Entry 0 is F(0), 1, and before it stand zeros; there are 47 entries
unfoldable pub recurs : ℕ → List ℕ → Bool
recurs m [] = false
recurs m (e ∷ es) = eqb (length (e ∷ es)) 47 && (eqb e 1 && recurs_after m (e ∷ replicate m 0) es)

-- The order is in use, and these are its position values
abbrev pub Positions : ℕ → List ℕ → Type 0
Positions m row = Order m × (recurs m row ≡ true)

-- ## The values, by their definition

-- What a row holds for a value: the value where it is at most the largest number, and 0 where it is above
unfoldable pub number_or_zero : ℕ → ℕ
number_or_zero x = elim (leb x max_number) [ true ↦ x | false ↦ 0 ]

-- A row holds the values f(0), f(1), .. , each as far as it is at most the largest number; past its end they are above
unfoldable pub Holds : (ℕ → ℕ) → List ℕ → Type 0
Holds f row = (j : ℕ) → get_or row j 0 ≡ number_or_zero (f j)

-- The row of the values f(0), f(1), .. : as many as any order has up to the largest number
unfoldable pub table_row : (ℕ → ℕ) → List ℕ
table_row f = values_from (λ j. number_or_zero (f j)) 0 47

-- The order is in use, and these are its first numbers
abbrev pub Firsts : ℕ → List ℕ → Type 0
Firsts m row = Order m × (row ≡ table_row (first m))
