-- The dense code is a code like every other: what follows of its rows and their bytes.
use mathlib.Core.Path.{◌≡◌, refl, sym, ap, ◌∙◌}
use mathlib.Core.List.{List, [], ◌++◌, append-nil, map, IsPrefix}
use mathlib.Core.Logic.{◌↔◌}
use Prim.Native.Nat.{ℕ, ◌+◌, ◌≤◌, ◌<◌}
use Rattle.lists.specs.Lists.{All}
use Rattle.codes.specs.Rows.{Positive}
use Rattle.codes.specs.Parse.{Parse, parsed, codewords, rest}
use Rattle.codes.proofs.Codes.{IsCode, all-positive, string-append, parse-string}
use Rattle.codes.proofs.Codes as codes
use Rattle.dense.specs.Code.{Codeword, number, codeword}
use Rattle.dense.specs.Encoding.{encoding, Rest, IsParse, parse, numbers}
use Rattle.dense.proofs.Numbers.{number-positive, codeword-good, codeword-only}
use Rattle.dense.proofs.Parse.{parse-is, parse-codeword, parse-rest}

pub encoding-append : (s c : ℕ) (a b : List ℕ) → encoding s c (a ++ b) ≡ encoding s c a ++ encoding s c b
unfolding encoding
encoding-append s c = string-append (codeword s c)

module _ (s c : ℕ) (ps : 1 ≤ s) (pc : 1 ≤ c) where
  is_code : IsCode (Codeword s c) (Rest s) (codeword s c) (number s c) (parse s)
  is_code =
      record {
        good = codeword-good s c ps pc;
        back = λ w k. sym (codeword-only s c ps pc w (number s c w) k refl);
        front = parse-codeword s c;
        left = parse-rest s;
        none = tt;
      }

  pub parse-only : (b : List ℕ) (p : Parse ℕ) → IsParse s c b p → p ≡ parse s b
  parse-only = codes.parse-only is_code

  pub encoding-parse : (row : List ℕ) → Positive row → parse s (encoding s c row) ≡ parsed (map (codeword s c) row) []
  unfolding encoding
  encoding-parse = codes.row-alone is_code

  pub encoding-read : (row : List ℕ) → Positive row → numbers s c (encoding s c row) ≡ row
  unfolding encoding numbers
  encoding-read = codes.row_read is_code

  -- bytes of which nothing is left are those of their numbers
  pub numbers-bytes : (b : List ℕ) → All (λ x. x < s + c) b → rest (parse s b) ≡ [] → encoding s c (numbers s c b) ≡ b
  unfolding encoding numbers
  numbers-bytes b a e =
      let ns : List ℕ = numbers s c b in
      sym (append-nil (encoding s c ns)) ∙ ap (λ (r : List ℕ). encoding s c ns ++ r) (sym e) ∙ parse-string is_code b (parse s b) (parse-is s c b a)

  pub rows_apart : (a b : List ℕ) → Positive a → Positive b → encoding s c a ≡ encoding s c b → a ≡ b
  unfolding encoding
  rows_apart = codes.rows_apart is_code

  pub rows_begin : (a b : List ℕ) → Positive a → Positive b → IsPrefix (encoding s c a) (encoding s c b) ↔ IsPrefix a b
  unfolding encoding
  rows_begin = codes.rows_begin is_code

-- the numbers of codewords are from 1 up
pub numbers-positive : (s c : ℕ) (b : List ℕ) → Positive (numbers s c b)
unfolding numbers
numbers-positive s c b = all-positive (number s c) (number-positive s c) (codewords (parse s b))
