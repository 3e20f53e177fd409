-- The (s, c)-dense code (paper 02, R-2; source 001, section 1; the words are 003's), for any s and c from 1 up: a byte below s is a stopper, one from s up to but
-- without s + c a continuer. Operations take c = 256 - s.
use Rattle.std.specs.Prelude.{◌≡◌, List, [], ◌∷◌, ◌++◌, ℕ, zero, suc, ◌+◌, ◌-◌, ◌*◌, ◌/◌, ◌%◌, ◌^◌, ◌≤◌, ◌<◌, length, take, get_or}
use Rattle.lists.specs.Lists.{All}

-- ## Codewords

abbrev pub Continuer : ℕ → ℕ → ℕ → Type 0
Continuer s c b = (s ≤ b) × (b < s + c)

-- A codeword: bytes of at least s, none or more, and then one byte below s
pub record Codeword (s c : ℕ) (w : List ℕ) : Type 0 where
  pub stem : List ℕ
  pub last : ℕ
  pub ends : w ≡ stem ++ (last ∷ [])
  pub leading : All (Continuer s c) stem
  pub stops : last < s

-- ## The number of a codeword

-- The first number whose codeword has k continuers. Shorter codewords come first, and s times c to the power k have k continuers
unfoldable pub first : ℕ → ℕ → ℕ → ℕ
first s c zero = 1
first s c (suc k) = first s c k + s * c ^ k

-- The leading bytes less s as digits to base c, the highest first, after digits that are worth v
unfoldable pub value : ℕ → ℕ → ℕ → List ℕ → ℕ
value s c v [] = v
value s c v (b ∷ w) = value s c (v * c + (b - s)) w

-- The first number of the codeword's length, and what its digits are worth: the last byte is the lowest digit, to base s
unfoldable pub number : ℕ → ℕ → List ℕ → ℕ
number s c w = first s c (length w - 1) + (value s c 0 (take (length w - 1) w) * s + get_or w (length w - 1) 0)

-- ## The codeword of a number

-- The strings of continuers, the shorter first and then by their digits, counted from 0: string y, before the bytes t. String 0 is empty; the one after
-- string z is string z / c and one byte more, of digit z % c. At most fuel bytes
unfoldable pub stem : ℕ → ℕ → ℕ → ℕ → List ℕ → List ℕ
stem s c zero y t = t
stem s c (suc fuel) zero t = t
stem s c (suc fuel) (suc z) t = stem s c fuel (z / c) ((s + z % c) ∷ t)

-- The codeword of n, from 1 up: s codewords have the same leading bytes
unfoldable pub codeword : ℕ → ℕ → ℕ → List ℕ
codeword s c n = stem s c n ((n - 1) / s) ((n - 1) % s ∷ [])
