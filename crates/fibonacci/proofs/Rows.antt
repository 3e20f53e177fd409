-- Rows, their bits and their bytes: what is written is read back, rows are told apart by their bytes, and one begins another when its bits do.
use mathlib.Core.Path.{◌≡◌, refl, sym, ap, ◌∙◌}
use mathlib.Core.Bool.{Bool, false}
use mathlib.Core.List.{List, [], ◌∷◌, ◌++◌, map, flatten, IsPrefix}
use mathlib.Core.Logic.{◌↔◌}
use Prim.Native.Nat.{ℕ, zero, suc, ◌*◌, ◌≤◌}
use native.Mathlib.Omega.{arith}
use lib.ListN.{length, replicate, length-append}
use Rattle.bits.specs.Bits.{byte_count, unpack, padding}
use Rattle.bits.proofs.Packing.{unpack-pack, pack-length}
use Rattle.calls.specs.Limits.{Order, Legal, max_number}
use Rattle.calls.proofs.Checks.{number_is}
use Rattle.codes.specs.Rows.{Positive}
use Rattle.codes.specs.Parse.{Parse, parsed, codewords, rest}
use Rattle.codes.proofs.Parse.{onto}
use Rattle.codes.proofs.Codes as codes
use Rattle.fibonacci.specs.Code.{runs, number, codeword}
use Rattle.fibonacci.specs.Encoding.{row_bits, encoding, Rest, parse, numbers}
use Rattle.fibonacci.proofs.Runs.{runs-false}
use Rattle.fibonacci.proofs.Lookup.{codeword-short}
use Rattle.fibonacci.proofs.Parse.{parse-is, is_code}

-- ## The parse of a row's bits

pub row-numbers : (m : ℕ) (row : List ℕ) → 1 ≤ m → Positive row → map (number m) (map (codeword m) row) ≡ row
row-numbers m row p = codes.row-numbers (is_code m p) row

-- with anything after them
pub bits-parse : (m : ℕ) (row : List ℕ) (t : List Bool) → 1 ≤ m → Positive row → parse m (row_bits m row ++ t) ≡ onto (map (codeword m) row) (parse m t)
unfolding row_bits
bits-parse m row t p = codes.row-parse (is_code m p) row t

pub bits-numbers : (m : ℕ) (row : List ℕ) (t : List Bool) → 1 ≤ m → Positive row → numbers m (row_bits m row ++ t) ≡ row ++ numbers m t
unfolding row_bits numbers
bits-numbers m row t p = codes.row_before (is_code m p) row t

-- any bits are those of their numbers, and the rest
pub numbers-bits : (m : ℕ) (b : List Bool) → 1 ≤ m → row_bits m (numbers m b) ++ rest (parse m b) ≡ b
unfolding row_bits numbers
numbers-bits m b p = codes.parse-string (is_code m p) b (parse m b) (parse-is m b p)

-- ## One row and another

pub bits-append : (m : ℕ) (a b : List ℕ) → row_bits m (a ++ b) ≡ row_bits m a ++ row_bits m b
unfolding row_bits
bits-append m = codes.string-append (codeword m)

-- a number more
pub bits-snoc : (m : ℕ) (row : List ℕ) (n : ℕ) → row_bits m (row ++ (n ∷ [])) ≡ row_bits m row ++ codeword m n
unfolding row_bits
bits-snoc m = codes.string-snoc (codeword m)

pub bits-begin : (m : ℕ) (a b : List ℕ) → 1 ≤ m → Positive a → Positive b → IsPrefix (row_bits m a) (row_bits m b) ↔ IsPrefix a b
unfolding row_bits
bits-begin m a b p = codes.rows_begin (is_code m p) a b

-- ## The bytes of a row

-- the padding is a rest
zeros-rest : (m k : ℕ) → 1 ≤ m → Rest m (replicate k false)
zeros-rest m zero p = unfold runs in refl
zeros-rest m (suc k) p = runs-false m (replicate k false) p ∙ zeros-rest m k p

-- the bytes of an encoding
pub encoding-length : (m : ℕ) (row : List ℕ) → length (encoding m row) ≡ byte_count (length (row_bits m row))
unfolding encoding
encoding-length m row = pack-length (row_bits m row)

pub encoding-parse : (m : ℕ) (row : List ℕ) → 1 ≤ m → Positive row
    → parse m (unpack (encoding m row)) ≡ parsed (map (codeword m) row) (replicate (padding (length (row_bits m row))) false)
unfolding encoding row_bits
encoding-parse m row p h =
    let zeros : ℕ = padding (length (row_bits m row)) in
    ap (parse m) (unpack-pack (row_bits m row)) ∙ codes.row-rest (is_code m p) row (replicate zeros false) h (zeros-rest m zeros p)

pub encoding-read : (m : ℕ) (row : List ℕ) → 1 ≤ m → Positive row → numbers m (unpack (encoding m row)) ≡ row
unfolding numbers
encoding-read m row p h = ap (λ (s : Parse Bool). map (number m) (codewords s)) (encoding-parse m row p h) ∙ row-numbers m row p h

pub encoding-apart : (m : ℕ) (a b : List ℕ) → 1 ≤ m → Positive a → Positive b → encoding m a ≡ encoding m b → a ≡ b
encoding-apart m a b p ha hb e =
    sym (encoding-read m a p ha) ∙ ap (λ (x : List ℕ). numbers m (unpack x)) e ∙ encoding-read m b p hb

-- ## How long a row's bits are

-- a codeword of a legal number has at most 47
pub bits-few : (m : ℕ) (row : List ℕ) → Order m → Legal max_number row → length (row_bits m row) ≤ 47 * length row
unfolding row_bits flatten
bits-few m [] o a = omega arith
bits-few m (n ∷ row) o a =
    let p = number_is max_number n a.0 in
    omega (arith, length-append (codeword m n) (row_bits m row), codeword-short m n o p.0 p.1, bits-few m row o a.1)
