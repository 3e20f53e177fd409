-- The numeration system: s digits without m ones in a row are exactly the numbers below F(s + 1), and the greedy digits are the way back.
use mathlib.Core.Path.{◌≡◌, refl, sym, ap, ap₂, ◌∙◌}
use mathlib.Core.Bool.{Bool, true, false}
use mathlib.Core.List.{List, [], ◌∷◌, ◌++◌, reverse_aux, reverse, reverse-reverse}
use Prim.Native.Nat.{ℕ, zero, suc, ◌+◌, ◌-◌, ◌≤◌, ◌<◌}
use native.Mathlib.Omega.{arith}
use native.Mathlib.Nat.{add-zero, zero-add}
use native.Mathlib.Decide.{dec_le}
use lib.ListN.{length, take, length-reverse}
use borrow.Author.Tests.{le-leb, lt-leb}
use Rattle.lists.specs.Lists.{sum}
use Rattle.lists.proofs.Sums.{sum_zeros}
use Rattle.codes.proofs.Lengths.{rising}
use Rattle.fibonacci.specs.Code.{past, F, value, leading_ones, runs, digits}
use Rattle.fibonacci.proofs.Runs.{runs-false, runs-true, runs-more, runs_grow}

-- ## Sums of position values: the first three laws carry everything

-- F(n) + F(n - 1) + .. , i values
unfoldable pub sum_down : ℕ → ℕ → ℕ → ℕ
sum_down m n i = sum (take i (past m n))

pub F-suc : (m n : ℕ) → F m (suc n) ≡ sum_down m n m
unfolding F sum_down past
F-suc m n = refl

pub sum_down-suc : (m n i : ℕ) → sum_down m (suc n) (suc i) ≡ F m (suc n) + sum_down m n i
unfolding F sum_down past
sum_down-suc m n i = refl

pub sum_down-zero : (m i : ℕ) → 1 ≤ i → sum_down m 0 i ≡ 1
unfolding sum_down past
sum_down-zero m zero h = absurd (omega arith)
sum_down-zero m (suc i) h = omega (arith, sum_zeros i m)

pub sum_down-none : (m n : ℕ) → sum_down m n 0 ≡ 0
unfolding sum_down
sum_down-none m n = refl

pub sum_down-head : (m n i : ℕ) → F m n ≤ sum_down m n (suc i)
unfolding F past
sum_down-head m zero i = omega (arith, sum_down-zero m (suc i) (omega arith))
sum_down-head m (suc n) i = omega (arith, sum_down-suc m n i)

pub F-rises : (m : ℕ) → 1 ≤ m → {j k : ℕ} → j ≤ k → F m j ≤ F m k
F-rises zero h = absurd (omega arith)
F-rises (suc m) h = rising (F (suc m)) (λ n. omega (arith, F-suc (suc m) n, sum_down-head (suc m) n m))

pub F-pos : (m n : ℕ) → 1 ≤ m → 1 ≤ F m n
unfolding F past
F-pos m n h = F-rises m h {j = 0} {k = n} (omega arith)

-- ## Greedy digits

pub digits-big : (m s r : ℕ) (t : List Bool) → F m (suc s) ≤ r → digits m (suc s) r t ≡ digits m s (r - F m (suc s)) (true ∷ t)
unfolding digits
digits-big m s r t h = rw (le-leb _ _ h, digits)

pub digits-small : (m s r : ℕ) (t : List Bool) → r < F m (suc s) → digits m (suc s) r t ≡ digits m s r (false ∷ t)
unfolding digits
digits-small m s r t h = rw (lt-leb _ _ h, digits)

pub digits_append : (m s r : ℕ) (t u : List Bool) → digits m s r (t ++ u) ≡ digits m s r t ++ u
unfolding digits
digits_append m zero r t u = refl
digits_append m (suc s) r t u =
    elim (dec_le (F m (suc s)) r) [
      | yes big ↦ rw (digits-big m s r (t ++ u) big, digits-big m s r t big) (digits_append m s _ (true ∷ t) u)
      | no small ↦ rw (digits-small m s r (t ++ u) (omega arith), digits-small m s r t (omega arith)) (digits_append m s _ (false ∷ t) u)
    ]

pub digits-length : (m s r : ℕ) (t : List Bool) → length (digits m s r t) ≡ s + length t
unfolding digits
digits-length m zero r t = omega arith
digits-length m (suc s) r t =
    elim (dec_le (F m (suc s)) r) [
      | yes big ↦ rw (digits-big m s r t big) (omega (arith, digits-length m s (r - F m (suc s)) (true ∷ t)))
      | no small ↦ rw (digits-small m s r t (omega arith)) (omega (arith, digits-length m s r (false ∷ t)))
    ]

-- ## Greedy digits make no new run, and have the value that they were made of

-- Before a string that begins with k ones there may stand digits that end in fewer than i ones, where k + i is m: s digits in part m s i ways.

some : (m s i : ℕ) → 1 ≤ sum_down m s i → 1 ≤ i
some m s zero h = omega (arith, sum_down-none m s)
some m s (suc i) h = omega arith

pub digits-good : (m s i r : ℕ) (t : List Bool) → leading_ones t + i ≡ m → r < sum_down m s i
    → (runs m (digits m s r t) ≡ runs m t) × (value m 1 (digits m s r t) ≡ r + value m (suc s) t)
unfolding digits value
digits-good m zero i r t h b = (refl, omega (arith, sum_down-zero m i (some m 0 i (omega arith))))
digits-good m (suc s) zero r t h b = absurd (omega (arith, sum_down-none m (suc s)))
digits-good m (suc s) (suc i) r t h b =
    elim (dec_le (F m (suc s)) r) [
      | yes big ↦
          let more : 1 ≤ i = some m s i (omega (arith, sum_down-suc m s i)) in
          let ih = digits-good m s i (r - F m (suc s)) (true ∷ t) (omega arith) (omega (arith, sum_down-suc m s i)) in
          rw (digits-big m s r t big) (ih.0 ∙ runs-true m t (omega arith), omega (arith, ih.1))
      | no small ↦
          let ih = digits-good m s m r (false ∷ t) (zero-add m) (omega (arith, F-suc m s)) in
          rw (digits-small m s r t (omega arith)) (ih.0 ∙ runs-false m t (omega arith), ih.1)
    ]

-- ## Digits that make no new run are the greedy digits of their value

-- what the digits h, the highest first, do before t
pub record Digits (m i : ℕ) (h t : List Bool) : Type 0 where
  pub v : ℕ
  pub below : v < sum_down m (length h) i
  pub bit_value : value m 1 (reverse_aux h t) ≡ v + value m (suc (length h)) t
  pub greedy : digits m (length h) v t ≡ reverse_aux h t

pub digits_of : (m : ℕ) (h : List Bool) (i : ℕ) (t : List Bool) → 1 ≤ i → leading_ones t + i ≡ m → runs m (reverse_aux h t) ≡ runs m t → Digits m i h t
unfolding digits value
digits_of m [] i t p e q = record { v = 0; below = omega (arith, sum_down-zero m i p); bit_value = omega arith; greedy = refl }
digits_of m (false ∷ h) zero t p e q = absurd (omega arith)
digits_of m (false ∷ h) (suc i) t p e q =
    let ih = digits_of m h m (false ∷ t) (omega arith) (zero-add m) (q ∙ sym (runs-false m t (omega arith))) in
    record {
      v = ih.v;
      below = omega (arith, ih.below, sum_down-suc m (length h) i, F-suc m (length h));
      bit_value = ih.bit_value;
      greedy = digits-small m (length h) ih.v t (omega (arith, ih.below, F-suc m (length h))) ∙ ih.greedy;
    }
digits_of m (true ∷ h) zero t p e q = absurd (omega arith)
digits_of m (true ∷ h) (suc i) t p e q =
    let more : 1 ≤ i =
    elim (dec_le m (suc (leading_ones t))) [
      | yes g ↦ absurd (omega (arith, runs-more m t g, runs_grow m h (true ∷ t)))
      | no l ↦ omega arith
    ] in
    let ih = digits_of m h i (true ∷ t) more (omega arith) (q ∙ sym (runs-true m t (omega arith))) in
    record {
      v = F m (suc (length h)) + ih.v;
      below = omega (arith, ih.below, sum_down-suc m (length h) i);
      bit_value = omega (arith, ih.bit_value);
      greedy = digits-big m (length h) (F m (suc (length h)) + ih.v) t (omega arith)
          ∙ ap (λ (x : ℕ). digits m (length h) x (true ∷ t)) (omega arith) ∙ ih.greedy;
    }

-- The numeration system: digits without m ones in a row are the greedy digits of their value, which is below F(s + 1) for s of them
pub free-digits : (m : ℕ) (q : List Bool) → 1 ≤ m → runs m q ≡ 0
    → (value m 1 q < F m (suc (length q))) × ((t : List Bool) → digits m (length q) (value m 1 q) t ≡ q ++ t)
unfolding runs value
free-digits m q p free =
    let back : reverse_aux (reverse q) [] ≡ q = reverse-reverse q in
    let g = digits_of m (reverse q) m [] p (zero-add m) (ap (runs m) back ∙ free) in
    let v : g.v ≡ value m 1 q = sym (sym (ap (value m 1) back) ∙ g.bit_value ∙ add-zero g.v) in
    let l : length (reverse q) ≡ length q = length-reverse q in (
      omega (arith, g.below, F-suc m (length (reverse q)), ap (λ (k : ℕ). F m (suc k)) l),
      λ t.
          digits_append m (length q) (value m 1 q) [] t
          ∙ ap (λ (b : List Bool). b ++ t) (sym (ap₂ (λ (k x : ℕ). digits m k x []) l v) ∙ g.greedy ∙ back),
    )
