-- Decimal numbers as text in columns: a text is a list of bytes, 32 a space and 48 to 57 the digits 0 to 9.
use Rattle.std.specs.Prelude.{true, false, ℕ, zero, suc, ◌+◌, ◌-◌, ◌*◌, ◌/◌, ◌%◌, eqb}
use mathlib.Core.List.{List, [], ◌∷◌, ◌++◌, foldl}
use Prim.Native.Char.{code}
use Prim.Native.String as string

-- The bytes of a text that is written out, in ASCII
abbrev pub ascii : string.String → List ℕ
ascii string.[] = []
ascii (string.◌∷◌ c t) = code c ∷ ascii t

-- The last digit of a number
abbrev pub digit : ℕ → ℕ
digit n = 48 + n % 10

-- A column in front of digits: the last digit of what is left of the number, or a space where nothing is
unfoldable pub leader : ℕ → ℕ
leader k = elim (eqb k 0) [ true ↦ 32 | false ↦ digit k ]

-- What is left of a number, right-justified with spaces in w columns; 0 is spaces only
unfoldable pub leading : ℕ → ℕ → List ℕ
leading zero k = []
leading (suc w) k = leading w (k / 10) ++ (leader k ∷ [])

-- n right-justified with spaces in w columns, without leading zeros; zero itself is the one digit 0
unfoldable pub column : ℕ → ℕ → List ℕ
column zero n = []
column (suc w) n = leading w (n / 10) ++ (digit n ∷ [])

-- The number that a text gives as decimal digits, the first worth most; a byte below the digit 0, as a space, counts as 0
unfoldable pub decimal : List ℕ → ℕ
decimal text = foldl (λ v b. 10 * v + (b - 48)) 0 text
