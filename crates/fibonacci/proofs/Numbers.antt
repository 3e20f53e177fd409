-- Codewords and the numbers from 1 up, one to one.
use mathlib.Core.Path.{◌≡◌, refl, sym, ap, ◌∙◌}
use mathlib.Core.Bool.{Bool, true, false}
use mathlib.Core.List.{List, [], ◌∷◌, ◌++◌, append_assoc, reverse_aux, reverse, reverse_aux-eq, reverse-reverse}
use mathlib.Core.Logic.{inl, inr, ◌↔◌}
use Prim.Native.Nat.{ℕ, zero, suc, ◌+◌, ◌-◌, ◌≤◌, ◌<◌}
use native.Mathlib.Omega.{arith}
use native.Mathlib.Nat.{add-zero, zero-add}
use native.Mathlib.Decide.{dec_le}
use lib.ListN.{length, length-append, length-replicate}
use lib.Seq.{take_at}
use borrow.Author.Tests.{le-leb, lt-leb}
use Rattle.lists.specs.Lists.{sum, values_from}
use Rattle.codes.proofs.Lengths.{rising, Between, between-one}
use Rattle.fibonacci.specs.Code.{past, F, value, first, ones, runs, Codeword, Form, number, digits, size, codeword}
use Rattle.fibonacci.proofs.Runs.{runs-false, runs-more, runs_grow, lead-ones, runs-all, runs-cut}
use Rattle.fibonacci.proofs.Numeration.{sum_down, F-suc, sum_down-suc, sum_down-zero, sum_down-none, sum_down-head, F-pos, digits-small, digits-good, free-digits, digits_append, digits-length}

-- ## The first numbers

sum-last : (f : ℕ → ℕ) (j n : ℕ) → sum (values_from f j (suc n)) ≡ sum (values_from f j n) + f (j + n)
sum-last f j zero = rw (add-zero j) (omega arith)
sum-last f j (suc n) =
    let e : f (suc j + n) ≡ f (j + suc n) = ap f (omega arith) in
    omega (arith, sum-last f (suc j) n)

-- of each length there are as many numbers as its F says (001, equation 1)
pub first-suc : (m d : ℕ) → first m (suc d) ≡ first m d + F m d
unfolding first F past
first-suc m zero = refl
first-suc m (suc s) =
    let e : 1 + s ≡ suc s = omega arith in
    omega (arith, sum-last (F m) 1 s, ap (F m) e)

-- order 2: a position value is the sum of the two before it
F-order-2 : (n : ℕ) → F 2 (suc (suc n)) ≡ F 2 (suc n) + F 2 n
unfolding F past
F-order-2 zero = refl
F-order-2 (suc n) = omega arith

-- and so the first numbers are the position values, one place on: 2 + F(1) + .. + F(s) is F(s + 2) (paper 02, R-3)
pub first_order_2 : (d : ℕ) → first 2 d ≡ F 2 (suc d)
unfolding first F past
first_order_2 zero = refl
first_order_2 (suc d) = omega (arith, first-suc 2 d, first_order_2 d, F-order-2 d)

first_step : (m d : ℕ) → first m d ≤ first m (suc d)
first_step m d = omega (arith, first-suc m d)

pub first-rises : (m : ℕ) {j k : ℕ} → j ≤ k → first m j ≤ first m k
first-rises m = rising (first m) (first_step m)

pub first_pos : (m d : ℕ) → 1 ≤ first m d
unfolding first
first_pos m d = first-rises m {j = 0} {k = d} (omega arith)

-- any of the position values down from F(n) sum up to less than the next first number
sum_down-below : (m n i : ℕ) → sum_down m n i < first m (suc n)
unfolding first
sum_down-below m n zero = omega (arith, sum_down-none m n)
sum_down-below m zero (suc i) = omega (arith, sum_down-zero m (suc i) (omega arith))
sum_down-below m (suc n) (suc i) = omega (arith, sum_down-suc m n i, first-suc m (suc n), sum_down-below m n i)

-- so no position value is above the first number of its place
pub F-first : (m d : ℕ) → F m d ≤ first m d
unfolding F past first
F-first m zero = omega arith
F-first m (suc s) = omega (arith, F-suc m s, sum_down-below m s m)

-- n is among the numbers whose codewords have d bits before their m ones
abbrev pub Within : ℕ → ℕ → ℕ → Type 0
Within m n d = Between (first m) n d

pub within-one : (m n d k : ℕ) → Within m n d → Within m n k → d ≡ k
within-one m n d k = between-one (first m) (first_step m) n d k

size-within : (m n fuel d : ℕ) → 1 ≤ m → first m d ≤ n → n < first m d + fuel → Within m n (size m n fuel d)
unfolding size
size-within m n zero d p a b = absurd (omega arith)
size-within m n (suc fuel) d p a b =
    elim (dec_le (first m (suc d)) n) [
      | yes big ↦ rw (le-leb _ _ big, size) (size-within m n fuel (suc d) p big (omega (arith, first-suc m d, F-pos m d p)))
      | no small ↦ let l : n < first m (suc d) = omega arith in rw (lt-leb _ _ l, size) (a, l)
    ]

pub codeword-size : (m n : ℕ) → 1 ≤ m → 1 ≤ n → Within m n (size m n n 0)
unfolding first
codeword-size m n p h = size-within m n n 0 p h (omega arith)

-- ## The number of a codeword

pub value-append : (m j : ℕ) (p t : List Bool) → value m j (p ++ t) ≡ value m j p + value m (j + length p) t
unfolding value
value-append m j [] t = rw (add-zero j) (omega arith)
value-append m j (false ∷ p) t = value-append m (suc j) p t ∙ ap (λ (x : ℕ). value m (suc j) p + value m x t) (omega arith)
value-append m j (true ∷ p) t =
    let e : value m (suc j + length p) t ≡ value m (j + suc (length p)) t = ap (λ (x : ℕ). value m x t) (omega arith) in
    omega (arith, value-append m (suc j) p t)

-- what ones at the digits l + 1, .. , l + r are worth, by the first numbers
pub value-ones : (m l r : ℕ) → value m (suc l) (ones r) + first m (suc l) ≡ first m (suc (l + r))
unfolding value
value-ones m l zero = rw (add-zero l) (omega arith)
value-ones m l (suc r) =
    let e : first m (suc (suc l + r)) ≡ first m (suc (l + suc r)) = ap (λ (x : ℕ). first m (suc x)) (omega arith) in
    omega (arith, value-ones m (suc l) r, first-suc m (suc l))

pub number_of : (m : ℕ) (p : List Bool) → number m (p ++ ones m) ≡ first m (length p) + value m 1 p
unfolding number
number_of m p =
    let e : length p ≡ length (p ++ ones m) - m = omega (arith, length-append p (ones m), length-replicate m true) in
    rw (← e, take_at p (ones m) (length p) refl)

-- ## The paper's form of a codeword

-- Number 1 is m ones
pub number_one : (m : ℕ) → number m (ones m) ≡ 1
unfolding value first
number_one m = number_of m []

-- Every other number is s digits, a 0 and m ones: 2 + F(1) + .. + F(s), and the value of the digits
pub number_digits : (m : ℕ) (q : List Bool) → number m (q ++ (false ∷ ones m)) ≡ 2 + sum (values_from (F m) 1 (length q)) + value m 1 q
unfolding value first
number_digits m q =
    let l : length (q ++ (false ∷ [])) ≡ suc (length q) = omega (arith, length-append q (false ∷ [])) in
    ap (number m) (sym (append_assoc q (false ∷ []) (ones m))) ∙ number_of m (q ++ (false ∷ []))
    ∙ omega (arith, ap (first m) l, value-append m 1 q (false ∷ []))

pub codeword-form : (m : ℕ) (w : List Bool) → 1 ≤ m → Codeword m w → Form m w
codeword-form m w p c =
    go (reverse c.body) (c.ends ∙ ap (λ (l : List Bool). l ++ ones m) (sym (reverse-reverse c.body)) ∙ sym (reverse_aux-eq (reverse c.body) (ones m)))
  where
    go : (h : List Bool) → w ≡ reverse_aux h (ones m) → Form m w
    go [] e = inl e
    go (true ∷ h) e =
        absurd (omega (arith, c.once, ap (runs m) e, runs_grow m h (true ∷ ones m), runs-more m (ones m) (omega (arith, lead-ones m)), runs-all m p))
    go (false ∷ h) e =
        let f : w ≡ reverse h ++ (false ∷ ones m) = e ∙ reverse_aux-eq h (false ∷ ones m) in
        inr (reverse h, f, omega (arith, c.once, ap (runs m) f, runs-cut m (reverse h) (ones m) p, runs-all m p))

pub form-codeword : (m : ℕ) (w : List Bool) → 1 ≤ m → Form m w → Codeword m w
form-codeword m w p (inl e) = record { once = ap (runs m) e ∙ runs-all m p; body = []; ends = e }
form-codeword m w p (inr f) =
    record {
      once = omega (arith, ap (runs m) f.1, runs-cut m f.0 (ones m) p, f.2, runs-all m p);
      body = f.0 ++ (false ∷ []);
      ends = f.1 ∙ sym (append_assoc f.0 (false ∷ []) (ones m));
    }

-- ## Every number from 1 up has a codeword

digits_value : (m d r : ℕ) → 1 ≤ m → r < F m d → value m 1 (digits m d r []) ≡ r
unfolding value
digits_value zero d r p h = absurd (omega arith)
digits_value (suc m) d r p h = (digits-good (suc m) d (suc m) r [] (zero-add _) (omega (arith, sum_down-head (suc m) d m))).1 ∙ add-zero r

digits-once : (m d r : ℕ) → 1 ≤ m → r < F m d → runs m (digits m d r (ones m)) ≡ 1
unfolding digits
digits-once m zero r p h = runs-all m p
digits-once m (suc s) r p h =
    rw (digits-small m s r (ones m) h)
    ((digits-good m s m r (false ∷ ones m) (zero-add m) (omega (arith, F-suc m s))).0 ∙ runs-false m (ones m) p ∙ runs-all m p)

pub codeword-good : (m n : ℕ) → 1 ≤ m → 1 ≤ n → Codeword m (codeword m n) × (number m (codeword m n) ≡ n)
unfolding codeword
codeword-good m n p h =
    let d : ℕ = size m n n 0 in
    let r : ℕ = n - first m d in
    let a : Within m n d = codeword-size m n p h in
    let small : r < F m d = omega (arith, first-suc m d) in
    let e : digits m d r (ones m) ≡ digits m d r [] ++ ones m = digits_append m d r [] (ones m) in
    let l : length (digits m d r []) ≡ d = digits-length m d r [] ∙ add-zero d in (
      record { once = digits-once m d r p small; body = digits m d r []; ends = e },
      ap (number m) e ∙ number_of m (digits m d r []) ∙ omega (arith, ap (first m) l, digits_value m d r p small),
    )

-- ## Every codeword is that of its number

-- what a codeword is by its number: d bits before the m ones, v above the first number
pub record Place (m : ℕ) (w : List Bool) : Type 0 where
  pub d : ℕ
  pub v : ℕ
  pub long : length w ≡ d + m
  pub below : v < F m d
  pub means : number m w ≡ first m d + v
  pub greedy : digits m d v (ones m) ≡ w

pub place : (m : ℕ) (w : List Bool) → 1 ≤ m → Form m w → Place m w
unfolding digits F past first
place m w p (inl e) =
    record {
      d = 0;
      v = 0;
      long = ap length e ∙ length-replicate m true ∙ sym (zero-add m);
      below = omega arith;
      means = ap (number m) e ∙ number_one m;
      greedy = sym e;
    }
place m w p (inr (q, e, free)) =
    let g = free-digits m q p free in
    record {
      d = suc (length q);
      v = value m 1 q;
      long = omega (arith, ap length e, length-append q (false ∷ ones m), length-replicate m true);
      below = g.0;
      means = ap (number m) e ∙ number_digits m q;
      greedy = digits-small m (length q) (value m 1 q) (ones m) g.0 ∙ g.1 (false ∷ ones m) ∙ sym e;
    }

place-within : (m : ℕ) (w : List Bool) (a : Place m w) → Within m (number m w) a.d
place-within m w a = omega (arith, a.means, a.below, first-suc m a.d)

pub codeword-number : (m : ℕ) (w : List Bool) → 1 ≤ m → Codeword m w → (codeword m (number m w) ≡ w) × (1 ≤ number m w)
unfolding codeword first
codeword-number m w p c =
    let a = place m w p (codeword-form m w p c) in
    let n : ℕ = number m w in
    let pos : 1 ≤ n = omega (arith, a.means, first-rises m {j = 0} {k = a.d} (omega arith)) in
    let rest : n - first m a.d ≡ a.v = omega (arith, a.means) in (
      ap (λ (k : ℕ). digits m k (n - first m k) (ones m)) (within-one m n _ a.d (codeword-size m n p pos) (place-within m w a))
          ∙ ap (λ (x : ℕ). digits m a.d x (ones m)) rest ∙ a.greedy,
      pos,
    )

-- The codewords of one length are those of the numbers from its first number up to the next first number
pub codeword-length : (m : ℕ) (w : List Bool) (d : ℕ) → 1 ≤ m → Codeword m w → (length w ≡ d + m) ↔ Within m (number m w) d
codeword-length m w d p c =
    let a = place m w p (codeword-form m w p c) in (
      λ (l : length w ≡ d + m).
          let e : a.d ≡ d = omega (arith, a.long) in
          rw e at (place-within m w a),
      λ (b : Within m (number m w) d). a.long ∙ ap (λ (k : ℕ). k + m) (within-one m (number m w) a.d d (place-within m w a) b),
    )
