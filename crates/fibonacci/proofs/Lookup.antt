-- The tables' rule, carried to each row and to each entry.
use mathlib.Core.Path.{◌≡◌, refl, sym, ap, ap₂, subst, ◌∙◌}
use mathlib.Core.Bool.{Bool, true, false, ◌&&◌, false≢true}
use mathlib.Core.List.{List, [], ◌∷◌}
use Prim.Native.Nat.{ℕ, zero, suc, ◌+◌, ◌-◌, ◌≤◌, ◌<◌}
use native.Mathlib.Omega.{arith}
use native.Mathlib.Nat.{add-zero, zero-add}
use native.Mathlib.Decide.{dec_le}
use lib.Dec.{leb, eqb}
use lib.ListN.{length, get_or, take, replicate, get_or-replicate, length-replicate}
use lib.Seq.{ext_get_or}
use borrow.Author.Tests.{le-leb, lt-leb, leb-true, leb-false, eqb-true}
use Rattle.lists.specs.Lists.{sum, values_from}
use Rattle.std.proofs.lemmas.List.{get_or_past, get_or-take}
use Rattle.lists.proofs.Lists.{values-at}
use Rattle.lists.proofs.Sums.{sum-none}
use Rattle.fibonacci.specs.Code.{past, F, ones, first, size, codeword}
use Rattle.calls.specs.Limits.{max_number, Order}
use Rattle.calls.proofs.Checks.{both}
use Rattle.fibonacci.specs.Leaves.{recurs_after, recurs, number_or_zero, Firsts, Holds, table_row}
use Rattle.fibonacci.proofs.Numeration.{F-rises, digits-length}
use Rattle.fibonacci.proofs.Numbers.{first_order_2, first-rises, codeword-size}

-- a table of tables: a row for each order from k to 6
unfoldable pub table_of : (ℕ → ℕ → ℕ) → ℕ → List (List ℕ)
unfolding table_row
table_of f k = values_from (λ m. table_row (f m)) k (7 - k)

-- the row of an order in it
pub row_at : (f : ℕ → ℕ → ℕ) (k m : ℕ) (z : List ℕ) → k ≤ m → m ≤ 6 → get_or (table_of f k) (m - k) z ≡ table_row (f m)
unfolding table_of
row_at f k m z h l =
    let e : k + (m - k) ≡ m = omega arith in
    values-at (λ m. table_row (f m)) k (7 - k) (m - k) z (omega arith) ∙ ap (λ (m : ℕ). table_row (f m)) e

-- an entry of a row
pub entry_at : (f : ℕ → ℕ) (j z : ℕ) → j < 47 → get_or (table_row f) j z ≡ number_or_zero (f j)
unfolding table_row
entry_at f j z h = values-at (λ j. number_or_zero (f j)) 0 47 j z h ∙ ap (λ (i : ℕ). number_or_zero (f i)) (zero-add j)

-- ## Past the row

-- what one computation over the orders shows
pub each-order : (t : ℕ → Bool) (v : Bool) → values_from t 2 5 ≡ replicate 5 v → (m : ℕ) → Order m → t m ≡ v
each-order t v e m h =
    let k : 2 + (m - 2) ≡ m = omega arith in
    ap t (sym k) ∙ sym (values-at t 2 5 (m - 2) v (omega arith)) ∙ ap (λ (l : List Bool). get_or l (m - 2) v) e
    ∙ get_or-replicate 5 (m - 2) v v (omega arith)

F-over : (m : ℕ) → Order m → max_number < F m 47
unfolding F past
F-over m h = leb-false _ _ (each-order (λ m. leb (F m 47) max_number) false refl m h)

-- a codeword of 48 bits
first-over : (m : ℕ) → Order m → max_number < first m (48 - m)
unfolding first F past
first-over m h = leb-false _ _ (each-order (λ m. leb (first m (48 - m)) max_number) false refl m h)

-- the first numbers of few bits are small
pub first-few : (m d : ℕ) → Order m → d ≤ 9 → first m d ≤ max_number
unfolding first F past
first-few m d h l = omega (arith, leb-true (first m 9) max_number (each-order (λ m. leb (first m 9) max_number) true refl m h), first-rises m l)

-- ## What a look-up gives

pub number-kept : (x : ℕ) → x ≤ max_number → number_or_zero x ≡ x
unfolding number_or_zero
number-kept x h = rw (le-leb x max_number h, number_or_zero)

pub number-zero : (x : ℕ) → max_number < x → number_or_zero x ≡ 0
unfolding number_or_zero
number-zero x h = rw (lt-leb x max_number h, number_or_zero)

-- so a look-up tells whether there is such a value
pub number-none : (x : ℕ) → 1 ≤ x → number_or_zero x ≡ 0 → max_number < x
number-none x p e = elim (dec_le x max_number) [ yes h ↦ absurd (omega (arith, number-kept x h)) | no h ↦ omega arith ]

pub number-some : (x : ℕ) → (number_or_zero x ≡ 0 → ⊥) → x ≤ max_number
number-some x e = elim (dec_le x max_number) [ yes h ↦ h | no h ↦ absurd (e (number-zero x (omega arith))) ]

-- ## The recurrence, carried to each entry

-- entries that are left, after F(n), F(n - 1), ..
after-at : (m n : ℕ) (before es : List ℕ) → 1 ≤ m → before ≡ past m n → recurs_after m before es ≡ true
    → (i : ℕ) → i < length es → get_or es i 0 ≡ number_or_zero (F m (suc n + i))
unfolding F past recurs_after
after-at m n before [] p b e i h = absurd (omega arith)
after-at m n before (x ∷ es) p b e i h = go (leb (sum (take m before)) max_number) refl (after-at m (suc n) (x ∷ before) es p)
  where
    next : sum (take m before) ≡ F m (suc n)
    next = ap (λ (l : List ℕ). sum (take m l)) b

    longer : x ≡ F m (suc n) → x ∷ before ≡ past m (suc n)
    longer is = ap₂ (λ (y : ℕ) (l : List ℕ). y ∷ l) is b

    at : (i : ℕ) → i < length (x ∷ es) → x ≡ F m (suc n) → F m (suc n) ≤ max_number
        → ((i : ℕ) → i < length es → get_or es i 0 ≡ number_or_zero (F m (suc (suc n) + i))) → get_or (x ∷ es) i 0 ≡ number_or_zero (F m (suc n + i))
    at zero h is small ih = is ∙ sym (number-kept _ small) ∙ ap (λ (k : ℕ). number_or_zero (F m k)) (sym (add-zero (suc n)))
    at (suc i) h is small ih = let k : suc (suc n) + i ≡ suc n + suc i = omega arith in ih i (omega arith) ∙ ap (λ (k : ℕ). number_or_zero (F m k)) k

    go : (v : Bool) → leb (sum (take m before)) max_number ≡ v
        → (x ∷ before ≡ past m (suc n) → recurs_after m (x ∷ before) es ≡ true
        → (i : ℕ) → i < length es → get_or es i 0 ≡ number_or_zero (F m (suc (suc n) + i)))
        → get_or (x ∷ es) i 0 ≡ number_or_zero (F m (suc n + i))
    go true t ih =
        let r = both (eqb x (sum (take m before))) (recurs_after m (x ∷ before) es) (rw (t, recurs_after) at e) in
        let is : x ≡ F m (suc n) = eqb-true _ _ r.0 ∙ next in
        at i h is (omega (arith, leb-true (sum (take m before)) max_number t, next)) (ih (longer is) r.1)
    go false t ih =
        let none : sum (x ∷ es) ≡ 0 = eqb-true _ _ (rw (t, recurs_after) at e) in
        let rises : F m (suc n) ≤ F m (suc n + i) = F-rises m p {j = suc n} {k = suc n + i} (omega arith) in
        sum-none (x ∷ es) none i ∙ sym (number-zero _ (omega (arith, leb-false (sum (take m before)) max_number t, next)))

-- in order 2 what recurs after F(0), 47 entries, are the first numbers
pub row-order-2 : (row : List ℕ) → length row ≡ 47 → recurs_after 2 (1 ∷ replicate 2 0) row ≡ true → row ≡ table_row (first 2)
unfolding past table_row
row-order-2 row l e = ext_get_or 0 row (table_row (first 2)) l at
  where
    at : (d : ℕ) → d < length row → get_or row d 0 ≡ get_or (table_row (first 2)) d 0
    at d h =
        let k : 1 + d ≡ suc d = omega arith in
        after-at 2 0 (1 ∷ replicate 2 0) row (omega arith) refl e d h ∙ ap number_or_zero (ap (F 2) k ∙ sym (first_order_2 d))
        ∙ sym (entry_at (first 2) d 0 (omega arith))

-- an entry of a row whose own entries recur is a position value, or 0 where that is above the largest number
pub recurs-at : (m : ℕ) (row : List ℕ) → 1 ≤ m → recurs m row ≡ true → (j : ℕ) → j < 47 → get_or row j 0 ≡ number_or_zero (F m j)
unfolding recurs F past
recurs-at m [] p e j h = absurd (false≢true e)
recurs-at m (x ∷ es) p e j h = at j h
  where
    tests : (eqb (length (x ∷ es)) 47 ≡ true) × ((eqb x 1 && recurs_after m (x ∷ replicate m 0) es) ≡ true)
    tests = both (eqb (length (x ∷ es)) 47) (eqb x 1 && recurs_after m (x ∷ replicate m 0) es) e

    rest : (eqb x 1 ≡ true) × (recurs_after m (x ∷ replicate m 0) es ≡ true)
    rest = both (eqb x 1) (recurs_after m (x ∷ replicate m 0) es) tests.1

    one : x ≡ F m 0
    one = eqb-true _ _ rest.0

    start : x ∷ replicate m 0 ≡ past m 0
    start = ap (λ (y : ℕ). y ∷ replicate m 0) (eqb-true _ _ rest.0)

    at : (j : ℕ) → j < 47 → get_or (x ∷ es) j 0 ≡ number_or_zero (F m j)
    at zero h = one ∙ sym (number-kept (F m 0) (omega arith))
    at (suc j) h =
        let k : 1 + j ≡ suc j = omega arith in
        after-at m 0 (x ∷ replicate m 0) es p start rest.1 j (omega (arith, eqb-true (length (x ∷ es)) 47 tests.0)) ∙ ap (λ (k : ℕ). number_or_zero (F m k)) k

recurs-long : (m : ℕ) (row : List ℕ) → recurs m row ≡ true → length row ≡ 47
unfolding recurs
recurs-long m [] e = absurd (false≢true e)
recurs-long m (x ∷ es) e = eqb-true _ _ (both (eqb (length (x ∷ es)) 47) (eqb x 1 && recurs_after m (x ∷ replicate m 0) es) e).0

-- one computation over a table of tables shows it for the row of each order
pub rows-recur : (t : List (List ℕ)) (z : List ℕ) (m : ℕ) → Order m → values_from (λ m. recurs m (get_or t (m - 2) z)) 2 5 ≡ replicate 5 true
    → recurs m (get_or t (m - 2) z) ≡ true
rows-recur t z m h e = each-order (λ m. recurs m (get_or t (m - 2) z)) true e m h

-- one over a row, that of order k, where k is the order
pub row-recurs : (k m : ℕ) (row : List ℕ) → k ≡ m → recurs k row ≡ true → recurs m row ≡ true
row-recurs k m row e h = rw e at h

-- ## What a row holds

holds_row : (f : ℕ → ℕ) → ((j : ℕ) → 47 ≤ j → max_number < f j) → Holds f (table_row f)
unfolding table_row Holds
holds_row f over j =
    elim (dec_le 47 j) [
      | yes l ↦ get_or_past (table_row f) j 0 l ∙ sym (number-zero (f j) (over j l))
      | no l ↦ entry_at f j 0 (omega arith)
    ]

module _ (m : ℕ) (h : Order m) where
  -- every position value up to the largest number stands in the row
  pub position-within : (j : ℕ) → F m j ≤ max_number → j < 47
  position-within j b =
      elim (dec_le 47 j) [
        | yes l ↦ absurd (omega (arith, F-over m h, F-rises m (omega arith) l))
        | no l ↦ omega arith
      ]

  pub position_at : (row : List ℕ) → recurs m row ≡ true → (j : ℕ) → F m j ≤ max_number → get_or row j 0 ≡ F m j
  position_at row e j b = recurs-at m row (omega arith) e j (position-within j b) ∙ number-kept (F m j) b

  -- no first number of a codeword of 48 bits is legal
  pub first-within : (d : ℕ) → first m d ≤ max_number → d + m ≤ 47
  first-within d b =
      elim (dec_le (48 - m) d) [
        | yes l ↦ absurd (omega (arith, first-over m h, first-rises m l))
        | no l ↦ omega arith
      ]

  -- past the row every first number is above the largest number
  pub first_past : (d : ℕ) → 47 ≤ d → number_or_zero (first m d) ≡ 0
  first_past d l = number-zero (first m d) (omega (arith, first-over m h, first-rises m {j = 48 - m} {k = d} (omega arith)))

  pub positions-hold : Holds (F m) (table_row (F m))
  positions-hold = holds_row (F m) (λ j l. omega (arith, F-over m h, F-rises m (omega arith) l))

  -- so does a row whose own entries recur
  pub recurs-holds : (row : List ℕ) → recurs m row ≡ true → Holds (F m) row
  unfolding table_row
  recurs-holds row e =
      let long : length row ≡ 47 = recurs-long m row e in
      let same : row ≡ table_row (F m) =
      ext_get_or 0 row (table_row (F m)) long (λ j l. recurs-at m row (omega arith) e j (omega arith) ∙ sym (entry_at (F m) j 0 (omega arith))) in
      subst (Holds (F m)) (sym same) positions-hold

  first-over-row : (d : ℕ) → 46 ≤ d → max_number < first m d
  first-over-row d l = omega (arith, first-over m h, first-rises m {j = 48 - m} {k = d} (omega arith))

  pub firsts-hold : Holds (first m) (table_row (first m))
  firsts-hold = holds_row (first m) (λ d l. first-over-row d (omega arith))

  pub firsts-row : (row : List ℕ) → Firsts m row → Holds (first m) row
  firsts-row row f = subst (Holds (first m)) (sym f.1) firsts-hold

  -- .. of which the last is above the largest number
  pub firsts-hold-less : Holds (first m) (take 46 (table_row (first m)))
  unfolding Holds table_row
  firsts-hold-less d =
      elim (dec_le 46 d) [
        | yes l ↦ get_or_past (take 46 (table_row (first m))) d 0 l ∙ sym (number-zero (first m d) (first-over-row d l))
        | no l ↦ get_or-take 46 (table_row (first m)) d 0 (omega arith) ∙ entry_at (first m) d 0 (omega arith)
      ]

-- how long a codeword is, by the search for its first number
pub codeword-bits : (m n : ℕ) → length (codeword m n) ≡ size m n n 0 + m
unfolding codeword
codeword-bits m n = digits-length m (size m n n 0) _ (ones m) ∙ ap (λ (k : ℕ). size m n n 0 + k) (length-replicate m true)

-- the longest codeword of a legal number has 47 bits
pub codeword-short : (m n : ℕ) → Order m → 1 ≤ n → n ≤ max_number → length (codeword m n) ≤ 47
codeword-short m n o h l =
    omega (arith, codeword-bits m n, first-within m o (size m n n 0) (omega (arith, (codeword-size m n (omega arith) h).0)))
