-- What the readers of a Fibonacci encoding share: the number of a codeword, and the padding.
use Rattle.std.specs.Prelude.{◌≡◌, Bool, ◌&&◌, ℕ, ◌+◌, ◌≤◌, ◌<◌, ltb, eqb}
use Rattle.fibonacci.specs.Code.{first}
use Rattle.calls.specs.Limits.{max_number}

-- n is the number of a codeword with `len` bits before its last ones, whose value is `val`, as far as a number of that length can be legal; else it is 0
abbrev pub NumberOf : ℕ → ℕ → ℕ → ℕ → Type 0
NumberOf m len val n = (first m len ≤ max_number → n ≡ first m len + val) × (max_number < first m len → n ≡ 0)

-- Whether what is pending at the end is padding, by its length and value before its trailing ones, and by these
abbrev pub is_padding : ℕ → ℕ → ℕ → Bool
is_padding len val run = ltb len 8 && (eqb val 0 && eqb run 0)
