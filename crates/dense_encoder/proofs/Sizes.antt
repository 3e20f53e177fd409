-- The length of a row's encoding: how many numbers reach each length of a codeword.
use mathlib.Core.Path.{◌≡◌, refl, sym, ap, ◌∙◌}
use mathlib.Core.Bool.{Bool, cond}
use mathlib.Core.List.{List, [], ◌∷◌, flatten}
use Prim.Native.Nat.{ℕ, suc, ◌+◌, ◌-◌, ◌*◌, ◌/◌, ◌%◌, ◌^◌, ◌≤◌, ◌<◌, min}
use native.Mathlib.Omega.{arith}
use native.Mathlib.Nat.{zero-add, pow-zero, pow-suc, mul-le-mul_left, one-le-mul}
use native.Mathlib.Decide.{dec_le}
use lib.Dec.{leb}
use lib.ListN.{length, length-append}
use borrow.Author.Tests.{le-leb, lt-leb}
use Rattle.lists.specs.Lists.{All}
use Rattle.lists.proofs.Each.{all_map}
use Rattle.std.proofs.lemmas.List.Sums.{sum_by-cons}
use Rattle.calls.specs.Limits.{Legal, max_number}
use Rattle.calls.proofs.Checks.{number_is, positive}
use Rattle.dense.specs.Code.{first, codeword}
use Rattle.dense.specs.Encoding.{encoding}
use Rattle.dense.specs.Limits.{Stoppers, continuers}
use Rattle.dense.proofs.Numbers.{first-up, stem-grows, codeword-good, number-length}
use Rattle.dense.proofs.Long.{encoding-long}
use Rattle.dense_encoder.specs.Leaves.{count_from}

-- ## How many numbers are at least so large, number by number

module _ (low n : ℕ) (row : List ℕ) where
  count-pass : low ≤ n → count_from low (n ∷ row) ≡ 1 + count_from low row
  count-pass h = sum_by-cons (λ x. cond (leb low x) 1 0) n row ∙ ap (λ (t : Bool). cond t 1 0 + count_from low row) (le-leb low n h)

  count-fail : n < low → count_from low (n ∷ row) ≡ count_from low row
  count-fail h = sum_by-cons (λ x. cond (leb low x) 1 0) n row ∙ rw (lt-leb low n h, zero-add) refl

count-none : (low : ℕ) (row : List ℕ) → All (λ n. n < low) row → count_from low row ≡ 0
count-none low [] a = refl
count-none low (n ∷ row) a = count-fail low n row a.0 ∙ count-none low row a.1

-- ## The length of a codeword

-- there is a last byte
pub codeword-some : (s c n : ℕ) → 1 ≤ length (codeword s c n)
unfolding codeword
codeword-some s c n = stem-grows s c n ((n - 1) / s) ((n - 1) % s ∷ [])

module _ (s c : ℕ) (ps : 1 ≤ s) (pc : 1 ≤ c) where
  -- n is in the span of its codeword's length
  span : (n : ℕ) → 1 ≤ n → (first s c (length (codeword s c n) - 1) ≤ n) × (n < first s c (length (codeword s c n)))
  span n h =
      let w : List ℕ = codeword s c n in
      let k = codeword-good s c ps pc n h in
      let e : suc (length w - 1) ≡ length w = omega (arith, codeword-some s c n) in
      rw (e, k.1) at ((number-length s c w (length w - 1) k.0).0 (sym e))

  -- from the first number with k continuers on, codewords are longer than k, and below it they are not
  reaches : (n k : ℕ) → 1 ≤ n → first s c k ≤ n → k < length (codeword s c n)
  reaches n k h g =
      let l : ℕ = length (codeword s c n) in
      elim (dec_le l k) [
        | yes a ↦ absurd (omega (arith, span n h, first-up s c l k a))
        | no a ↦ omega arith
      ]

  below : (n k : ℕ) → 1 ≤ n → n < first s c k → length (codeword s c n) ≤ k
  below n k h g =
      let l : ℕ = length (codeword s c n) in
      elim (dec_le (suc k) l) [
        | yes a ↦ absurd (omega (arith, span n h, first-up s c k (l - 1) (omega arith)))
        | no a ↦ omega arith
      ]

-- ## The bytes of a row, at most k of each codeword

unfoldable pub capped : ℕ → ℕ → ℕ → List ℕ → ℕ
capped s c k [] = 0
capped s c k (n ∷ row) = min (length (codeword s c n)) k + capped s c k row

capped-one : (s c : ℕ) (row : List ℕ) → capped s c 1 row ≡ length row
unfolding capped
capped-one s c [] = refl
capped-one s c (n ∷ row) = omega (arith, codeword-some s c n, capped-one s c row)

capped-few : (s c k : ℕ) (row : List ℕ) → capped s c k row ≤ length (encoding s c row)
unfolding capped encoding flatten
capped-few s c k [] = omega arith
capped-few s c k (n ∷ row) = omega (arith, length-append (codeword s c n) (encoding s c row), capped-few s c k row)

module _ (s c : ℕ) (ps : 1 ≤ s) (pc : 1 ≤ c) (k : ℕ) where
  abbrev low : ℕ
  low = first s c k

  capped-more : (row : List ℕ) → All (λ n. 1 ≤ n) row → capped s c (suc k) row ≡ capped s c k row + count_from low row
  unfolding capped
  capped-more [] a = refl
  capped-more (n ∷ row) a =
      elim (dec_le low n) [
        | yes g ↦
            omega (
              arith,
              capped-more row a.1,
              reaches s c ps pc n k a.0 g,
              count-pass low n row g,
            )
        | no g ↦
            omega (
              arith,
              capped-more row a.1,
              below s c ps pc n k a.0 (omega arith),
              count-fail low n row (omega arith),
            )
      ]

  -- none is longer
  capped-all : (row : List ℕ) → All (λ n. 1 ≤ n) row → count_from low row ≡ 0 → capped s c k row ≡ length (encoding s c row)
  unfolding capped encoding flatten
  capped-all [] a e = refl
  capped-all (n ∷ row) a e =
      elim (dec_le low n) [
        | yes g ↦ absurd (omega (arith, count-pass low n row g))
        | no g ↦
            let f : count_from low row ≡ 0 = omega (arith, count-fail low n row (omega arith)) in
            omega (arith, capped-all row a.1 f, below s c ps pc n k a.0 (omega arith), length-append (codeword s c n) (encoding s c row))
      ]

  capped-end : (row : List ℕ) → Legal max_number row → max_number < low → capped s c k row ≡ length (encoding s c row)
  capped-end row a h =
      capped-all row (positive max_number row a) (count-none low row (all_map _ (λ n. n < low) (λ n q. omega (arith, number_is max_number n q)) row a))

-- ## Measuring a row, length by length

-- so many bytes, at most `reached` of each codeword; the first number that has more is next, and so many numbers have one more
pub record Sized (s c : ℕ) (row : List ℕ) (bytes next more : ℕ) : Type 0 where
  pub reached : ℕ
  pub is : bytes ≡ capped s c reached row
  pub span : next ≡ first s c reached
  pub size : more ≡ s * c ^ reached
  pub step : more ≤ 256 * next
  pub some : 1 ≤ more

pub sized-start : (s c : ℕ) (row : List ℕ) → 1 ≤ s → 1 ≤ c → c ≤ 256 → Sized s c row (length row) (s + 1) (s * c)
unfolding first
sized-start s c row ps pc h =
    record {
      reached = 1;
      is = sym (capped-one s c row);
      span = omega (arith, ap (λ (x : ℕ). s * x) (pow-zero c));
      size = omega (arith, ap (λ (x : ℕ). s * x) (pow-suc c 0), ap (λ (x : ℕ). s * (x * c)) (pow-zero c));
      step = omega (arith, mul-le-mul_left s h);
      some = one-le-mul ps pc;
    }

module _ {s c : ℕ} {row : List ℕ} {bytes next more : ℕ} (z : Sized s c row bytes next more) (ps : 1 ≤ s) (pc : 1 ≤ c) (legal : Legal max_number row) where
  module _ {low longer : ℕ} (at : low ≡ next) (counted : longer ≡ count_from low row) where
    reaching : longer ≡ count_from (first s c z.reached) row
    reaching = counted ∙ ap (λ (x : ℕ). count_from x row) (at ∙ z.span)

    -- so many numbers reach one length more
    one_more : bytes + longer ≡ capped s c (suc z.reached) row
    one_more = omega (arith, z.is, reaching, capped-more s c ps pc z.reached row (positive max_number row legal))

    pub sized-few : bytes + longer ≤ length (encoding s c row)
    sized-few = omega (arith, one_more, capped-few s c (suc z.reached) row)

    pub sized-more : c ≤ 256 → Sized s c row (bytes + longer) (next + more) (more * c)
    unfolding first
    sized-more h =
        record {
          reached = suc z.reached;
          is = one_more;
          span = omega (arith, z.span, z.size);
          size = omega (arith, ap (λ (x : ℕ). x * c) z.size, ap (λ (x : ℕ). s * x) (pow-suc c z.reached));
          step = omega (arith, mul-le-mul_left more h);
          some = one-le-mul z.some pc;
        }

    -- none reaches it
    pub sized-none : longer ≡ 0 → bytes ≡ length (encoding s c row)
    sized-none e = z.is ∙ capped-all s c ps pc z.reached row (positive max_number row legal) (sym reaching ∙ e)

  pub sized-end : max_number < next → bytes ≡ length (encoding s c row)
  sized-end h = z.is ∙ capped-end s c ps pc z.reached row legal (omega (arith, z.span))

-- with c of an operation: what is measured, and that it may be
pub record Measured (s : ℕ) (row : List ℕ) (bytes next more : ℕ) : Type 0 where
  pub sized : Sized s (continuers s) row bytes next more
  pub step : more ≤ 256 * next
  pub some : 1 ≤ more
  pub stoppers : Stoppers s
  pub legal : Legal max_number row

pub measured-start : (s : ℕ) (row : List ℕ) → Stoppers s → Legal max_number row → Measured s row (length row) (s + 1) (s * continuers s)
measured-start s row o legal =
    let z = sized-start s (continuers s) row o.0 (omega (arith, o)) (omega arith) in
    record { sized = z; step = z.step; some = z.some; stoppers = o; legal = legal }

module _ {s : ℕ} {row : List ℕ} {bytes next more : ℕ} (m : Measured s row bytes next more) where
  some : 1 ≤ continuers s
  some = omega (arith, m.stoppers)

  module _ {low longer : ℕ} (at : low ≡ next) (counted : longer ≡ count_from low row) where
    pub measured-few : bytes + longer ≤ 25 * length row
    measured-few =
        omega (arith, sized-few m.sized m.stoppers.0 some m.legal at counted, encoding-long s row m.stoppers.0 m.stoppers.1 m.legal)

    pub measured-more : Measured s row (bytes + longer) (next + more) (more * continuers s)
    measured-more =
        let z = sized-more m.sized m.stoppers.0 some m.legal at counted (omega arith) in
        record { sized = z; step = z.step; some = z.some; stoppers = m.stoppers; legal = m.legal }

    pub measured-none : longer ≡ 0 → bytes ≡ length (encoding s (continuers s) row)
    measured-none = sized-none m.sized m.stoppers.0 some m.legal at counted

  pub measured-end : max_number < next → bytes ≡ length (encoding s (continuers s) row)
  measured-end = sized-end m.sized m.stoppers.0 some m.legal
