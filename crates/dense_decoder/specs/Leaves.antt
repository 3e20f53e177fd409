-- Codewords and no rest, and what stands at the front of them: a codeword, with its number or with one above the limit.
use Rattle.std.specs.Prelude.{◌≡◌, List, ◌∷◌, ◌++◌, ℕ, ◌+◌, ◌-◌, ◌≤◌, ◌<◌, length, get_or, drop, Option, Some, None}
use Rattle.codes.specs.Parse.{rest}
use Rattle.dense.specs.Encoding.{Rest, parse, numbers}
use Rattle.dense.specs.Limits.{continuers}
use Rattle.dense.specs.Leaves.{index}

-- The last byte, if there is one, is a stopper, with which every codeword is finished
abbrev pub Finished : ℕ → List ℕ → Type 0
Finished s b = get_or b (length b - 1) 0 < s

-- From place i on there is a stopper, with which a codeword is finished
abbrev pub FinishedFrom : ℕ → List ℕ → ℕ → Type 0
FinishedFrom s b i = (j : ℕ) × (i ≤ j) × (j < length b) × (get_or b j 0 < s)

-- The number after `before`, as far as it is within the limit, and the byte after its codeword
abbrev pub Numbered : ℕ → ℕ → ℕ → Option (ℕ × ℕ) → Type 0
Numbered before after limit r = (before < limit → r ≡ Some (before + 1, after)) × (limit ≤ before → r ≡ None)

-- What stands at the front of the bytes `now`, of which those of b from some place on are the end: a codeword, and where the next one begins; or one whose
-- number is above the limit
abbrev pub Front : ℕ → ℕ → List ℕ → List ℕ → Option (ℕ × ℕ) → Type 0
Front s limit b now (Some (n, after)) =
    (n ≤ limit) × (after ≤ length b) × (length (drop after b) < length now)
    × (numbers s (continuers s) now ≡ n ∷ numbers s (continuers s) (drop after b)) × (rest (parse s now) ≡ rest (parse s (drop after b)))
Front s limit b now None = (n : ℕ) × (ns : List ℕ) × (numbers s (continuers s) now ≡ n ∷ ns) × (limit < n)

-- .. whatever continuers stand before place i, if they are string y
abbrev pub FrontAfter : ℕ → ℕ → List ℕ → ℕ → ℕ → Option (ℕ × ℕ) → Type 0
FrontAfter s limit b i y r = (u : List ℕ) → Rest s u → y ≡ index s (continuers s) 0 u → Front s limit b (u ++ drop i b) r
