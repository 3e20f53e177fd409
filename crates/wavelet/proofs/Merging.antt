-- Merged rows: which number stands at a place, how often one stands before it, and where it stands for the j-th time, asked of the side that it is on.
use mathlib.Core.Path.{◌≡◌, refl, sym, ap, ◌∙◌, subst}
use mathlib.Core.Bool.{Bool, true, false}
use mathlib.Core.List.{List, [], ◌∷◌}
use Prim.Native.Nat.{ℕ, zero, suc, ◌+◌, ◌≤◌, ◌<◌}
use native.Mathlib.Omega.{arith}
use native.Mathlib.Nat.{zero-add}
use native.Mathlib.Numerals.{one-add}
use lib.Dec.{eqb}
use lib.ListN.{length, get_or, take, drop, replicate, length-map, length-replicate}
use lib.Seq.{get_or-drop}
use borrow.Author.Tests.{eq-eqb}
use Rattle.lists.specs.Lists.{All}
use Rattle.bits.specs.Bits.{bit_value, same_bit, count, select_bit}
use Rattle.bits.proofs.Count.{count-le}
use Rattle.bits.proofs.Select.{select-none}
use Rattle.wavelet.specs.Bitmaps.{merge}
use Rattle.wavelet.specs.Questions.{uses, rank_in}

-- ## Counts

-- a bit is one more of its kind than stand before it
pub count-before : (v : Bool) (b : List Bool) (i : ℕ) → i < length b → get_or b i false ≡ v → count v (take i b) < count v b
unfolding count
count-before v [] i h e = absurd (omega arith)
count-before v (a ∷ b) zero h e =
    let w : bit_value (same_bit v a) ≡ 1 = ap (λ (x : Bool). bit_value (same_bit v x)) e ∙ self v in
    omega arith
  where
    self : (v : Bool) → bit_value (same_bit v v) ≡ 1
    self false = refl
    self true = refl
count-before v (a ∷ b) (suc i) h e = omega (arith, count-before v b i (omega arith) e)

-- ## Places

-- a bit of the other kind is passed over
select-other : (v a : Bool) (j : ℕ) (b : List Bool) → same_bit v a ≡ false → select_bit v j (a ∷ b) ≡ suc (select_bit v j b)
unfolding select_bit
select-other v a zero b e = rw (e, select_bit)
select-other v a (suc j) b e = rw (e, select_bit)

select-here : (v a : Bool) (b : List Bool) → same_bit v a ≡ true → select_bit v 0 (a ∷ b) ≡ 0
unfolding select_bit
select-here v a b e = rw (e, select_bit)

select-next : (v a : Bool) (j : ℕ) (b : List Bool) → same_bit v a ≡ true → select_bit v (suc j) (a ∷ b) ≡ suc (select_bit v j b)
unfolding select_bit
select-next v a j b e = rw (e, select_bit)

pub merge-length : (b : List Bool) (z o : List ℕ) → length (merge b z o) ≡ length b
unfolding merge
merge-length [] z o = refl
merge-length (false ∷ b) z o = ap suc (merge-length b (drop 1 z) o)
merge-length (true ∷ b) z o = ap suc (merge-length b z (drop 1 o))

abbrev side : Bool → List ℕ → List ℕ → List ℕ
side false z o = z
side true z o = o

merge-at : (b : List Bool) (z o : List ℕ) (i : ℕ) → i < length b
    → get_or (merge b z o) i 0 ≡ get_or (side (get_or b i false) z o) (count (get_or b i false) (take i b)) 0
unfolding merge count
merge-at [] z o i h = absurd (omega arith)
merge-at (false ∷ b) z o zero h = refl
merge-at (true ∷ b) z o zero h = refl
merge-at (false ∷ b) z o (suc i) h = merge-at b (drop 1 z) o i (omega arith) ∙ go (get_or b i false) (count (get_or b i false) (take i b))
  where
    go : (v : Bool) (c : ℕ) → get_or (side v (drop 1 z) o) c 0 ≡ get_or (side v z o) (bit_value (same_bit v false) + c) 0
    go false c = get_or-drop 1 z c 0
    go true c = rw (zero-add c)
merge-at (true ∷ b) z o (suc i) h = merge-at b z (drop 1 o) i (omega arith) ∙ go (get_or b i false) (count (get_or b i false) (take i b))
  where
    go : (v : Bool) (c : ℕ) → get_or (side v z (drop 1 o)) c 0 ≡ get_or (side v z o) (bit_value (same_bit v true) + c) 0
    go false c = rw (zero-add c)
    go true c = get_or-drop 1 o c 0

module _ (b : List Bool) (z o : List ℕ) where
  pub merge-at-one : (i : ℕ) → i < length b → get_or b i false ≡ true → get_or (merge b z o) i 0 ≡ get_or o (count true (take i b)) 0
  merge-at-one i h e = subst (λ (v : Bool). get_or (merge b z o) i 0 ≡ get_or (side v z o) (count v (take i b)) 0) e (merge-at b z o i h)

  pub merge-at-zero : (i : ℕ) → i < length b → get_or b i false ≡ false → get_or (merge b z o) i 0 ≡ get_or z (count false (take i b)) 0
  merge-at-zero i h e = subst (λ (v : Bool). get_or (merge b z o) i 0 ≡ get_or (side v z o) (count v (take i b)) 0) e (merge-at b z o i h)

-- what holds of each number of both sides
pub all-merge : (P : ℕ → Type 0) (b : List Bool) (z o : List ℕ) → length z ≡ count false b → length o ≡ count true b → All P z → All P o → All P (merge b z o)
unfolding merge count
all-merge P [] z o hz ho az ao = tt
all-merge P (false ∷ b) [] o hz ho az ao = absurd (omega arith)
all-merge P (false ∷ b) (x ∷ z) o hz ho az ao = (az.0, all-merge P b z o (omega arith) (omega arith) az.1 ao)
all-merge P (true ∷ b) z [] hz ho az ao = absurd (omega arith)
all-merge P (true ∷ b) z (x ∷ o) hz ho az ao = (ao.0, all-merge P b z o (omega arith) (omega arith) az ao.1)

-- ## Rank

-- a number stands among the first as often as on both sides
rank-sides : (b : List Bool) (z o : List ℕ) (n i : ℕ) → length z ≡ count false b → length o ≡ count true b → i ≤ length b
    → rank_in (merge b z o) n i ≡ rank_in z n (count false (take i b)) + rank_in o n (count true (take i b))
unfolding merge count rank_in
rank-sides b z o n zero hz ho h = refl
rank-sides [] z o n (suc i) hz ho h = absurd (omega arith)
rank-sides (false ∷ b) [] o n (suc i) hz ho h = absurd (omega arith)
rank-sides (false ∷ b) (x ∷ z) o n (suc i) hz ho h =
    rw (one-add, zero-add) (omega (arith, rank-sides b z o n i (omega arith) (omega arith) (omega arith)))
rank-sides (true ∷ b) z [] n (suc i) hz ho h = absurd (omega arith)
rank-sides (true ∷ b) z (x ∷ o) n (suc i) hz ho h =
    rw (one-add, zero-add) (omega (arith, rank-sides b z o n i (omega arith) (omega arith) (omega arith)))

-- n stands nowhere in a row
abbrev pub Without : ℕ → List ℕ → Type 0
Without n row = All (λ x. eqb n x ≡ false) row

rank-none : (row : List ℕ) (n i : ℕ) → Without n row → rank_in row n i ≡ 0
unfolding rank_in count
rank-none row n zero a = refl
rank-none [] n (suc i) a = refl
rank-none (x ∷ row) n (suc i) a = rw a.0 (omega (arith, rank-none row n i a.1))

module _ (b : List Bool) (z o : List ℕ) (hz : length z ≡ count false b) (ho : length o ≡ count true b) (n : ℕ) where
  pub rank-merge-one : Without n z → (i : ℕ) → i ≤ length b → rank_in (merge b z o) n i ≡ rank_in o n (count true (take i b))
  rank-merge-one a i h = omega (arith, rank-sides b z o n i hz ho h, rank-none z n (count false (take i b)) a)

  pub rank-merge-zero : Without n o → (i : ℕ) → i ≤ length b → rank_in (merge b z o) n i ≡ rank_in z n (count false (take i b))
  rank-merge-zero a i h = omega (arith, rank-sides b z o n i hz ho h, rank-none o n (count true (take i b)) a)

-- ## Select

-- u is the side v of w by the bits b, as far as places go; so it is with one bit more in front of all three
select-step : (v e : Bool) (b u w : List Bool) → same_bit v v ≡ true → ((j : ℕ) → select_bit true j w ≡ select_bit v (select_bit true j u) b)
    → (j : ℕ) → select_bit true j (e ∷ w) ≡ select_bit v (select_bit true j (e ∷ u)) (v ∷ b)
select-step v false b u w s ih j =
    rw (select-other true false j w refl, select-other true false j u refl, select-next v v (select_bit true j u) b s) (ap suc (ih j))
select-step v true b u w s ih zero = rw (select-here true true w refl, select-here true true u refl, select-here v v b s)
select-step v true b u w s ih (suc j) =
    rw (select-next true true j w refl, select-next true true j u refl, select-next v v (select_bit true j u) b s) (ap suc (ih j))

pub select-merge-one : (b : List Bool) (z o : List ℕ) → length z ≡ count false b → length o ≡ count true b → (n : ℕ) → Without n z
    → (j : ℕ) → select_bit true j (uses n (merge b z o)) ≡ select_bit true (select_bit true j (uses n o)) b
unfolding merge count
select-merge-one [] z o hz ho n a j = unfold select_bit in refl
select-merge-one (false ∷ b) [] o hz ho n a j = absurd (omega arith)
select-merge-one (false ∷ b) (x ∷ z) o hz ho n a j =
    select-other true (eqb n x) j (uses n (merge b z o)) a.0 ∙ ap suc (select-merge-one b z o (omega arith) (omega arith) n a.1 j)
    ∙ sym (select-other true false (select_bit true j (uses n o)) b refl)
select-merge-one (true ∷ b) z [] hz ho n a j = absurd (omega arith)
select-merge-one (true ∷ b) z (x ∷ o) hz ho n a j =
    select-step true (eqb n x) b (uses n o) (uses n (merge b z o)) refl (select-merge-one b z o (omega arith) (omega arith) n a) j

pub select-merge-zero : (b : List Bool) (z o : List ℕ) → length z ≡ count false b → length o ≡ count true b → (n : ℕ) → Without n o
    → (j : ℕ) → select_bit true j (uses n (merge b z o)) ≡ select_bit false (select_bit true j (uses n z)) b
unfolding merge count
select-merge-zero [] z o hz ho n a j = unfold select_bit in refl
select-merge-zero (true ∷ b) z [] hz ho n a j = absurd (omega arith)
select-merge-zero (true ∷ b) z (x ∷ o) hz ho n a j =
    select-other true (eqb n x) j (uses n (merge b z o)) a.0 ∙ ap suc (select-merge-zero b z o (omega arith) (omega arith) n a.1 j)
    ∙ sym (select-other false true (select_bit true j (uses n z)) b refl)
select-merge-zero (false ∷ b) [] o hz ho n a j = absurd (omega arith)
select-merge-zero (false ∷ b) (x ∷ z) o hz ho n a j =
    select-step false (eqb n x) b (uses n z) (uses n (merge b z o)) refl (select-merge-zero b z o (omega arith) (omega arith) n a) j

-- ## A row of one number

uses-same : (k n : ℕ) → uses n (replicate k n) ≡ replicate k true
uses-same zero n = refl
uses-same (suc k) n = rw (eq-eqb n n refl) (ap (λ (l : List Bool). true ∷ l) (uses-same k n))

pub rank_same : (k n i : ℕ) → i ≤ k → rank_in (replicate k n) n i ≡ i
unfolding rank_in count
rank_same k n zero h = refl
rank_same zero n (suc i) h = absurd (omega arith)
rank_same (suc k) n (suc i) h = rw (eq-eqb n n refl) (omega (arith, rank_same k n i (omega arith)))

pub select-same : (k n j : ℕ) → j < k → select_bit true j (uses n (replicate k n)) ≡ j
select-same k n j h = ap (select_bit true j) (uses-same k n) ∙ go k j h
  where
    go : (k j : ℕ) → j < k → select_bit true j (replicate k true) ≡ j
    go zero j h = absurd (omega arith)
    go (suc k) zero h = select-here true true (replicate k true) refl
    go (suc k) (suc j) h = select-next true true j (replicate k true) refl ∙ ap suc (go k j (omega arith))

pub select-same-none : (k n j : ℕ) → k ≤ j → select_bit true j (uses n (replicate k n)) ≡ k
select-same-none k n j h =
    let e : length (uses n (replicate k n)) ≡ k = length-map (replicate k n) (eqb n) ∙ length-replicate k n in
    select-none true j (uses n (replicate k n)) (omega (arith, count-le true (uses n (replicate k n)))) ∙ e
