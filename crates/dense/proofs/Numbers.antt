-- Numbers and codewords correspond one to one, for any s and c from 1 up.
use mathlib.Core.Path.{◌≡◌, refl, sym, ap, ◌∙◌}
use mathlib.Core.List.{List, [], ◌∷◌, ◌++◌, append_assoc}
use mathlib.Core.Logic.{◌↔◌}
use Prim.Native.Nat.{ℕ, zero, suc, ◌+◌, ◌-◌, ◌*◌, ◌/◌, ◌%◌, ◌^◌, ◌≤◌, ◌<◌}
use native.Mathlib.Omega.{arith}
use native.Mathlib.Nat.{add-zero, zero-add, pow-zero, pow-suc, div-le_self, mod-lt, div-add-mod', mul-le-mul_right, le-mul_of_pos_right}
use lib.ListN.{length, length-append}
use lib.Seq.{take-append_seam, get_or-append_seam}
use lib.Arith.{digits_div, digits_mod}
use Rattle.lists.specs.Lists.{All}
use Rattle.codes.proofs.Lengths.{rising, Between, between-one}
use Rattle.dense.specs.Code.{Continuer, Codeword, first, value, number, stem, codeword}
use Rattle.dense.specs.Leaves.{index}

-- ## Strings of continuers, counted from 0

pub index-append : (s c y : ℕ) (u v : List ℕ) → index s c y (u ++ v) ≡ index s c (index s c y u) v
unfolding index
index-append s c y [] v = refl
index-append s c y (b ∷ u) v = index-append s c (suc (y * c + (b - s))) u v

-- how many are shorter than k bytes
unfoldable pub shorter : ℕ → ℕ → ℕ
shorter c zero = 0
shorter c (suc k) = suc (shorter c k * c)

shorter-pow : (c k : ℕ) → shorter c k + c ^ k ≡ suc (shorter c k * c)
unfolding shorter
shorter-pow c zero = omega (arith, pow-zero c)
shorter-pow c (suc k) = omega (arith, pow-suc c k, ap (λ (x : ℕ). x * c) (shorter-pow c k))

pub first-is : (s c k : ℕ) → first s c k ≡ suc (shorter c k * s)
unfolding first shorter
first-is s c zero = omega arith
first-is s c (suc k) = omega (arith, first-is s c k, ap (λ (x : ℕ). x * s) (shorter-pow c k))

pub index_is : (s c v j : ℕ) (u : List ℕ) → index s c (v + shorter c j) u ≡ value s c v u + shorter c (j + length u)
unfolding index value shorter
index_is s c v j [] = ap (λ (k : ℕ). v + shorter c k) (sym (add-zero j))
index_is s c v j (b ∷ u) =
    let e : suc ((v + shorter c j) * c + (b - s)) ≡ v * c + (b - s) + shorter c (suc j) = omega arith in
    let k : suc j + length u ≡ j + suc (length u) = omega arith in
    rw (e, ← k) (index_is s c (v * c + (b - s)) (suc j) u)

-- ## The number of a codeword

pub number_digits : (s c : ℕ) (u : List ℕ) (b : ℕ) → number s c (u ++ (b ∷ [])) ≡ first s c (length u) + (value s c 0 u * s + b)
unfolding number
number_digits s c u b =
    let e : length (u ++ (b ∷ [])) - 1 ≡ length u = omega (arith, length-append u (b ∷ [])) in
    rw (e, take-append_seam u (b ∷ []), get_or-append_seam u b [] 0) refl

pub number-positive : (s c : ℕ) (w : List ℕ) → 1 ≤ number s c w
unfolding number
number-positive s c w = omega (arith, first-is s c (length w - 1))

pub number-index : (s c : ℕ) (u : List ℕ) (b : ℕ) → number s c (u ++ (b ∷ [])) ≡ suc (index s c 0 u * s + b)
unfolding shorter
number-index s c u b =
    let i : index s c 0 u ≡ value s c 0 u + shorter c (length u) =
    index_is s c 0 0 u ∙ ap (λ (k : ℕ). value s c 0 u + shorter c k) (zero-add (length u)) in
    omega (arith, number_digits s c u b, first-is s c (length u), ap (λ (x : ℕ). x * s) i)

-- ## String y

-- more fuel changes nothing
stem-more : (s c f y : ℕ) (t : List ℕ) → y ≤ f → stem s c f y t ≡ stem s c (suc f) y t
unfolding stem
stem-more s c zero zero t h = refl
stem-more s c zero (suc z) t h = absurd (omega arith)
stem-more s c (suc f) zero t h = refl
stem-more s c (suc f) (suc z) t h = stem-more s c f (z / c) ((s + z % c) ∷ t) (omega (arith, div-le_self z c))

pub stem-none : (s c f : ℕ) (t : List ℕ) → stem s c f 0 t ≡ t
unfolding stem
stem-none s c zero t = refl
stem-none s c (suc f) t = refl

pub stem-next : (s c f z : ℕ) (t : List ℕ) → suc z ≤ f → stem s c f (suc z) t ≡ stem s c f (z / c) ((s + z % c) ∷ t)
unfolding stem
stem-next s c zero z t h = absurd (omega arith)
stem-next s c (suc f) z t h = stem-more s c f (z / c) ((s + z % c) ∷ t) (omega (arith, div-le_self z c))

-- nothing of t is lost
pub stem-grows : (s c f y : ℕ) (t : List ℕ) → length t ≤ length (stem s c f y t)
unfolding stem
stem-grows s c zero y t = omega arith
stem-grows s c (suc f) zero t = omega arith
stem-grows s c (suc f) (suc z) t = omega (arith, stem-grows s c f (z / c) ((s + z % c) ∷ t))

stem-front : (s c f y : ℕ) (t : List ℕ) → stem s c f y t ≡ stem s c f y [] ++ t
unfolding stem
stem-front s c zero y t = refl
stem-front s c (suc f) zero t = refl
stem-front s c (suc f) (suc z) t =
    stem-front s c f (z / c) ((s + z % c) ∷ t)
    ∙ sym (append_assoc (stem s c f (z / c) []) ((s + z % c) ∷ []) t)
    ∙ ap (λ (l : List ℕ). l ++ t) (sym (stem-front s c f (z / c) ((s + z % c) ∷ [])))

stem-leading : (s c f y : ℕ) (t : List ℕ) → 1 ≤ c → All (Continuer s c) t → All (Continuer s c) (stem s c f y t)
unfolding stem
stem-leading s c zero y t p a = a
stem-leading s c (suc f) zero t p a = a
stem-leading s c (suc f) (suc z) t p a = stem-leading s c f (z / c) ((s + z % c) ∷ t) p ((omega arith, omega (arith, mod-lt z {m = c} p)), a)

-- string y is string y
stem-index : (s c f y : ℕ) (t : List ℕ) → y ≤ f → index s c 0 (stem s c f y t) ≡ index s c y t
unfolding stem index
stem-index s c zero zero t h = refl
stem-index s c zero (suc z) t h = absurd (omega arith)
stem-index s c (suc f) zero t h = refl
stem-index s c (suc f) (suc z) t h =
    let e : suc (z / c * c + (s + z % c - s)) ≡ suc z = omega (arith, div-add-mod' z c) in
    stem-index s c f (z / c) ((s + z % c) ∷ t) (omega (arith, div-le_self z c)) ∙ ap (λ (y : ℕ). index s c y t) e

pub index-grows : (s c y : ℕ) (u : List ℕ) → 1 ≤ c → y ≤ index s c y u
unfolding index
index-grows s c y [] p = omega arith
index-grows s c y (b ∷ u) p = omega (arith, index-grows s c (suc (y * c + (b - s))) u p, le-mul_of_pos_right {m = c} y p)

-- and the only one of its number
index-stem : (s c f y : ℕ) (u t : List ℕ) → 1 ≤ c → All (Continuer s c) u → index s c y u ≤ f → stem s c f (index s c y u) t ≡ stem s c f y (u ++ t)
unfolding index
index-stem s c f y [] t p a h = refl
index-stem s c f y (b ∷ u) t p a h =
    let d : b - s < c = omega arith in
    let grows = index-grows s c (suc (y * c + (b - s))) u p in
    let back : s + (b - s) ≡ b = omega arith in
    index-stem s c f (suc (y * c + (b - s))) u t p a.1 h
    ∙ stem-next s c f (y * c + (b - s)) (u ++ t) (omega arith)
    ∙ rw (digits_div y d, digits_mod y d, back) refl

-- ## The codeword of a number

module _ (s c : ℕ) (ps : 1 ≤ s) (pc : 1 ≤ c) where
  pub codeword-good : (n : ℕ) → 1 ≤ n → Codeword s c (codeword s c n) × (number s c (codeword s c n) ≡ n)
  unfolding codeword
  codeword-good n h =
      let x : ℕ = n - 1 in
      let u : List ℕ = stem s c n (x / s) [] in
      let front = stem-front s c n (x / s) (x % s ∷ []) in
      let e : index s c 0 u ≡ x / s = stem-index s c n (x / s) [] (omega (arith, div-le_self x s)) ∙ unfold index in refl in (
        record {
          stem = u;
          last = x % s;
          ends = front;
          leading = stem-leading s c n (x / s) [] pc tt;
          stops = mod-lt x {m = s} ps;
        },
        ap (number s c) front ∙ number-index s c u (x % s) ∙ omega (arith, ap (λ (y : ℕ). y * s) e, div-add-mod' x s),
      )

  pub codeword-only : (w : List ℕ) (n : ℕ) → Codeword s c w → number s c w ≡ n → w ≡ codeword s c n
  unfolding codeword
  codeword-only w n k e =
      let y : ℕ = index s c 0 k.stem in
      let x : n - 1 ≡ y * s + k.last = omega (arith, sym (ap (number s c) k.ends) ∙ e, number-index s c k.stem k.last) in
      let few : y ≤ n = omega (arith, le-mul_of_pos_right {m = s} y ps) in
      k.ends ∙ sym (stem-none s c n (k.stem ++ (k.last ∷ [])))
      ∙ sym (index-stem s c n 0 k.stem (k.last ∷ []) pc k.leading few)
      ∙ rw (x, digits_div y k.stops, digits_mod y k.stops) refl

-- ## Numbers by the length of their codewords

-- the digits of a string of k continuers are worth less than c to the power k
value-below : (s c v : ℕ) (u : List ℕ) → All (Continuer s c) u → (value s c v u < suc v * c ^ length u) × (v * c ^ length u ≤ value s c v u)
unfolding value
value-below s c v [] a = omega (arith, ap (λ (x : ℕ). v * x) (pow-zero c), pow-zero c)
value-below s c v (b ∷ u) a =
    let i = value-below s c (v * c + (b - s)) u a.1 in
    let h : suc (v * c + (b - s)) ≤ suc v * c = omega arith in
    let g : v * c ≤ v * c + (b - s) = omega arith in
    omega (
      arith,
      i,
      ap (λ (x : ℕ). v * x) (pow-suc c (length u)),
      pow-suc c (length u),
      mul-le-mul_right (c ^ length u) h,
      mul-le-mul_right (c ^ length u) g,
    )

-- a codeword with k continuers is in the span of k
number-span : (s c : ℕ) (w : List ℕ) (k : Codeword s c w) → Between (first s c) (number s c w) (length k.stem)
unfolding first
number-span s c w k =
    let j : ℕ = length k.stem in
    let d = number_digits s c k.stem k.last in
    let v = (value-below s c 0 k.stem k.leading).0 in
    let m = mul-le-mul_right s v in
    rw k.ends (omega (arith, d), omega (arith, d, m, k.stops))

first_step : (s c k : ℕ) → first s c k ≤ first s c (suc k)
unfolding first
first_step s c k = omega arith

pub first-up : (s c i k : ℕ) → i ≤ k → first s c i ≤ first s c k
first-up s c i k h = rising (first s c) (first_step s c) h

codeword-length : (s c : ℕ) (w : List ℕ) (x : Codeword s c w) → length w ≡ suc (length x.stem)
codeword-length s c w x = omega (arith, ap length x.ends, length-append x.stem (x.last ∷ []))

pub shorter_first : (s c : ℕ) (v w : List ℕ) → Codeword s c v → Codeword s c w → length v < length w → number s c v < number s c w
shorter_first s c v w x y h =
    let up = first-up s c (suc (length x.stem)) (length y.stem) (omega (arith, codeword-length s c v x, codeword-length s c w y)) in
    omega (arith, up, number-span s c v x, number-span s c w y)

pub number-length : (s c : ℕ) (w : List ℕ) (k : ℕ) → Codeword s c w → (length w ≡ suc k) ↔ Between (first s c) (number s c w) k
number-length s c w k x =
    let l = codeword-length s c w x in
    let span = number-span s c w x in (
      λ e. let j : length x.stem ≡ k = omega arith in rw j at span,
      λ h. l ∙ ap suc (between-one (first s c) (first_step s c) (number s c w) (length x.stem) k span h),
    )
