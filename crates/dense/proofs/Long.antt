-- How long codewords of legal numbers are: at most 25 bytes, for every s from 1 to 254.
use mathlib.Core.Path.{◌≡◌, refl, ap}
use mathlib.Core.List.{List, [], ◌∷◌, flatten}
use Prim.Native.Nat.{ℕ, zero, suc, ◌*◌, ◌≤◌, ◌<◌}
use native.Mathlib.Omega.{arith}
use native.Mathlib.Nat.{mul-le-mul}
use native.Mathlib.Decide.{dec_le}
use lib.ListN.{length, length-append}
use Rattle.calls.specs.Limits.{Legal, max_number, max_count}
use Rattle.calls.proofs.Checks.{number_is}
use Rattle.dense.specs.Code.{first, codeword}
use Rattle.dense.specs.Encoding.{encoding}
use Rattle.dense.specs.Limits.{Stoppers, continuers, max_dense_bytes}
use Rattle.dense.proofs.Numbers.{shorter, first-is, first-up, codeword-good, number-length}

shorter-up : (a c k : ℕ) → a ≤ c → shorter a k ≤ shorter c k
unfolding shorter
shorter-up a c zero h = omega arith
shorter-up a c (suc k) h = omega (arith, mul-le-mul (shorter-up a c k h) h)

shorter-2 : shorter 2 25 ≡ 33554431
unfolding shorter
shorter-2 = refl

shorter-128 : shorter 128 6 ≡ 34630287489
unfolding shorter
shorter-128 = refl

-- with 25 continuers every number is too large
first-long : (s : ℕ) → 1 ≤ s → s ≤ 254 → max_number < first s (continuers s) 25
first-long s p h =
    elim (dec_le 129 s) [
      | yes g ↦ omega (arith, first-is s (continuers s) 25, shorter-2, mul-le-mul (shorter-up 2 (continuers s) 25 (omega arith)) g)
      | no g ↦ omega (arith, first-up s (continuers s) 6 25 (omega arith), first-is s (continuers s) 6, shorter-128, mul-le-mul (shorter-up 128 (continuers s) 6 (omega arith)) p)
    ]

pub codeword-long : (s n : ℕ) → 1 ≤ s → s ≤ 254 → 1 ≤ n → n ≤ max_number → length (codeword s (continuers s) n) ≤ 25
codeword-long s n ps h pn l =
    let c : ℕ = continuers s in
    let k = codeword-good s c ps (omega arith) n pn in
    let w : List ℕ = codeword s c n in
    let j : ℕ = length k.0.stem in
    let e : length w ≡ suc j = omega (arith, ap length k.0.ends, length-append k.0.stem (k.0.last ∷ [])) in
    let span = (number-length s c w j k.0).0 e in
    elim (dec_le 25 j) [
      | yes g ↦ absurd (omega (arith, span.0, k.1, first-up s c 25 j g, first-long s ps h))
      | no g ↦ omega arith
    ]

pub encoding-long : (s : ℕ) (row : List ℕ) → 1 ≤ s → s ≤ 254 → Legal max_number row → length (encoding s (continuers s) row) ≤ 25 * length row
unfolding encoding flatten
encoding-long s [] ps h a = omega arith
encoding-long s (n ∷ row) ps h a =
    let p = number_is max_number n a.0 in
    omega (
      arith,
      length-append (codeword s (continuers s) n) (encoding s (continuers s) row),
      codeword-long s n ps h p.0 p.1,
      encoding-long s row ps h a.1,
    )

-- the bytes of a row that is written are not too many to be read
pub rows_fit : (s : ℕ) (row : List ℕ) → Stoppers s → length row ≤ max_count → Legal max_number row → length (encoding s (continuers s) row) ≤ max_dense_bytes
rows_fit s row o l a = omega (arith, encoding-long s row o.0 o.1 a)
