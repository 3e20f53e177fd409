-- A row's values, moved to any place: three products of whole numbers.
use mathlib.Core.Path.{◌≡◌, refl, ap, ◌∙◌}
use mathlib.Core.Bool.{Bool, true, false}
use mathlib.Core.List.{List, [], ◌∷◌}
use Prim.Native.Nat.{ℕ, zero, suc, ◌+◌, ◌-◌, ◌*◌, ◌^◌, ◌≤◌, ◌<◌}
use native.Mathlib.Numerals.{add-one, add-two}
use native.Mathlib.Omega.{arith}
use native.Mathlib.Nat.{mul-add, add-mul, mul-zero, zero-add}
use lib.ListN.{get_or}
use borrow.Author.Tests.{leb-true}
use Rattle.std.proofs.lemmas.Nat.{mul-lt}
use Rattle.lists.specs.Lists.{values_from}
use Rattle.lists.proofs.Lists.{values-at}
use Rattle.fibonacci.specs.Code.{past, F, value}
use Rattle.fibonacci.proofs.Numeration.{sum_down, F-suc, sum_down-suc, sum_down-zero, sum_down-none, F-rises}
use Rattle.byte_table.specs.declared.tables.TheConstants.{POSITIONS_FROM_MINUS_TWO}
use Rattle.byte_table.specs.Leaves.{two_back, moved, value0, value1, value2}

-- ## The table of position values

back-tested : POSITIONS_FROM_MINUS_TWO ≡ values_from two_back 0 40
unfolding two_back F past
back-tested = refl

position-at : (n : ℕ) → n < 40 → get_or POSITIONS_FROM_MINUS_TWO n 0 ≡ two_back n
position-at n h = ap (λ (l : List ℕ). get_or l n 0) back-tested ∙ values-at two_back 0 40 n 0 h ∙ ap two_back (zero-add n)

-- which are small
back-small : (n : ℕ) → n < 40 → two_back n < 2 ^ 32
unfolding two_back
back-small zero h = omega arith
back-small (suc zero) h = omega arith
back-small (suc (suc n)) h =
    let last : F 3 37 ≤ 2 ^ 32 - 1 = unfold F past in leb-true (F 3 37) (2 ^ 32 - 1) refl in
    omega (arith, F-rises 3 (omega arith) {j = n} {k = 37} (omega arith), last)

pub times-is : (n v : ℕ) → n < 40 → v < 512 → (get_or POSITIONS_FROM_MINUS_TWO n 0 * v ≡ two_back n * v) × (get_or POSITIONS_FROM_MINUS_TWO n 0 * v < 2 ^ 41)
times-is n v h l = rw (position-at n h) (refl, mul-lt (two_back n) v (2 ^ 32) 512 (back-small n h) l)

-- as the code has them
pub moved_by : (l a b c : ℕ) → two_back (l + 2) * a + two_back (l + 1) * b + two_back l * c ≡ moved l a b c
unfolding moved two_back
moved_by l a b c = rw (add-two, add-one) refl

-- ## One position value

-- the recurrence of order 3, from negative places on
back-next : (n : ℕ) → two_back (suc (suc (suc n))) ≡ two_back (suc (suc n)) + two_back (suc n) + two_back n
unfolding two_back
back-next zero = unfold F past in refl
back-next (suc zero) = unfold F past in refl
back-next (suc (suc n)) =
    omega (arith, F-suc 3 (suc (suc n)), sum_down-suc 3 (suc n) 2, sum_down-suc 3 n 1, alone n)
  where
    alone : (n : ℕ) → sum_down 3 n 1 ≡ F 3 n
    alone zero = sum_down-zero 3 1 (omega arith) ∙ (unfold F past in refl)
    alone (suc n) = omega (arith, sum_down-suc 3 n 0, sum_down-none 3 n)

-- F(l + j) for j from 1 up
F-moved : (l j : ℕ) → F 3 (l + suc j) ≡ moved l (F 3 (suc j)) (F 3 j + two_back (suc j)) (F 3 j)
unfolding moved two_back
F-moved zero j =
    let one : F 3 0 ≡ 1 = unfold F past in refl in
    ap (F 3) (zero-add (suc j)) ∙ rw one (omega arith)
F-moved (suc l) j =
    let e : suc l + suc j ≡ l + suc (suc j) = omega arith in
    ap (F 3) e ∙ F-moved l (suc j)
    ∙ rw (back-next l, back-next (suc j)) (simp (mul-add, add-mul) (omega arith))

-- ## The values of bits

-- F(j - 1) + .. over the digits that are one, the first being j
earlier : ℕ → List Bool → ℕ
earlier j [] = 0
earlier j (false ∷ b) = earlier (suc j) b
earlier j (true ∷ b) = two_back (suc j) + earlier (suc j) b

earlier-suc : (j : ℕ) (b : List Bool) → earlier (suc j) b ≡ value 3 j b
unfolding value earlier two_back
earlier-suc j [] = refl
earlier-suc j (false ∷ b) = earlier-suc (suc j) b
earlier-suc j (true ∷ b) = ap (λ (v : ℕ). F 3 j + v) (earlier-suc (suc j) b)

earlier-first : (b : List Bool) → earlier 0 b ≡ value2 b
unfolding earlier value two_back
earlier-first [] = refl
earlier-first (false ∷ b) = earlier-suc 0 b
earlier-first (true ∷ b) = omega (arith, earlier-suc 0 b)

-- such values move like position values do
moved_sum : (l x y z x' y' z' : ℕ) → moved l x y z + moved l x' y' z' ≡ moved l (x + x') (y + y') (z + z')
unfolding moved
moved_sum l x y z x' y' z' = simp mul-add (omega arith)

value-moved : (l j : ℕ) (b : List Bool) → value 3 (l + suc j) b ≡ moved l (value 3 (suc j) b) (value 3 j b + earlier j b) (value 3 j b)
unfolding value earlier
value-moved l j [] = unfold moved in omega (arith, mul-zero (F 3 l), mul-zero (two_back (suc l)), mul-zero (two_back l))
value-moved l j (false ∷ b) =
    let e : suc (l + suc j) ≡ l + suc (suc j) = omega arith in
    ap (λ (k : ℕ). value 3 k b) e ∙ value-moved l (suc j) b
value-moved l j (true ∷ b) =
    let e : suc (l + suc j) ≡ l + suc (suc j) = omega arith in
    let y : F 3 j + two_back (suc j) + (value 3 (suc j) b + earlier (suc j) b) ≡ F 3 j + value 3 (suc j) b + (two_back (suc j) + earlier (suc j) b) = omega arith in
    rw (ap (λ (k : ℕ). value 3 k b) e, value-moved l (suc j) b, F-moved l j)
    (moved_sum l _ _ _ _ _ _ ∙ ap (λ (v : ℕ). moved l (F 3 (suc j) + value 3 (suc (suc j)) b) v (F 3 j + value 3 (suc j) b)) y)

-- The law that moves a row: what its bits are worth after l others
pub row_moved : (l : ℕ) (b : List Bool) → value 3 (1 + l) b ≡ moved l (value0 b) (value1 b + value2 b) (value1 b)
row_moved l b =
    let e : 1 + l ≡ l + 1 = omega arith in
    ap (λ (k : ℕ). value 3 k b) e ∙ value-moved l 0 b ∙ ap (λ (v : ℕ). moved l (value0 b) (value1 b + v) (value1 b)) (earlier-first b)
