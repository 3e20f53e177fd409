-- The Fibonacci code of order m (paper 01, "The code of order m"; source 001, section 2), for any m.
use Rattle.std.specs.Prelude.{◌≡◌, Bool, true, false, List, [], ◌∷◌, ◌++◌, ◌⊎◌, ℕ, zero, suc, ◌+◌, ◌-◌, leb, length, take, get_or, replicate}
use Rattle.lists.specs.Lists.{sum, values_from}
use Rattle.bits.specs.Bits.{bit_value}

-- ## The position values

-- F(n), F(n - 1), .. , F(0) and m zeros, which stand for F at the negative places: F(0) is 1, and each value after it is the sum of the m before it
unfoldable pub past : ℕ → ℕ → List ℕ
past m zero = 1 ∷ replicate m 0
past m (suc n) = sum (take m (past m n)) ∷ past m n

-- F(n) of order m (paper 01: position value)
unfoldable pub F : ℕ → ℕ → ℕ
unfolding past
F m n = get_or (past m n) 0 0

-- ## Codewords

abbrev pub ones : ℕ → List Bool
ones k = replicate k true

-- How many ones stand at the start
abbrev pub leading_ones : List Bool → ℕ
leading_ones [] = 0
leading_ones (false ∷ b) = 0
leading_ones (true ∷ b) = suc (leading_ones b)

-- At how many places m ones in a row begin, overlaps counted
unfoldable pub runs : ℕ → List Bool → ℕ
runs m [] = 0
runs m (a ∷ b) = bit_value (leb m (leading_ones (a ∷ b))) + runs m b

-- A codeword: m ones in a row occur once only, and that is at its end
pub record Codeword (m : ℕ) (w : List Bool) : Type 0 where
  pub once : runs m w ≡ 1
  pub body : List Bool
  pub ends : w ≡ body ++ ones m

-- What every codeword looks like: m ones, or digits without m ones in a row, then a 0, then m ones
abbrev pub Form : ℕ → List Bool → Type 0
Form m w = (w ≡ ones m) ⊎ ((q : List Bool) × (w ≡ q ++ (false ∷ ones m)) × (runs m q ≡ 0))

-- ## The number of a codeword

-- The sum of F(j) over the digits j that are one, the leftmost being digit j (paper 01: relative number, from j = 1)
unfoldable pub value : ℕ → ℕ → List Bool → ℕ
value m j [] = 0
value m j (false ∷ b) = value m (suc j) b
value m j (true ∷ b) = F m j + value m (suc j) b

-- The first number whose codeword has d bits before its m ones (paper 01: first number). Number 1 is m ones alone; the others have s digits and a 0
-- there, and the first of them is 2 + F(1) + .. + F(s)
unfoldable pub first : ℕ → ℕ → ℕ
first m zero = 1
first m (suc s) = 2 + sum (values_from (F m) 1 s)

-- The first number of the codeword's length, plus the value of what stands before the m ones: nothing, or the digits and a 0, which adds nothing
unfoldable pub number : ℕ → List Bool → ℕ
number m w = first m (length w - m) + value m 1 (take (length w - m) w)

-- ## The codeword of a number

-- The largest d from the given one up, at most fuel steps, whose first number is at most n
unfoldable pub size : ℕ → ℕ → ℕ → ℕ → ℕ
size m n zero d = d
size m n (suc fuel) d = elim (leb (first m (suc d)) n) [ true ↦ size m n fuel (suc d) | false ↦ d ]

-- The s digits of value r before the bits t: greedily, from the highest digit down
unfoldable pub digits : ℕ → ℕ → ℕ → List Bool → List Bool
digits m zero r t = t
digits m (suc s) r t =
    elim (leb (F m (suc s)) r) [ true ↦ digits m s (r - F m (suc s)) (true ∷ t) | false ↦ digits m s r (false ∷ t) ]

-- The codeword of n, from 1 up. Digit d is the 0 before the m ones, as the relative number is below F(d)
unfoldable pub codeword : ℕ → ℕ → List Bool
codeword m n = let d : ℕ = size m n n 0 in digits m d (n - first m d) (ones m)
