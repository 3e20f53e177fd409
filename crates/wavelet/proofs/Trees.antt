-- Trees: what stands below a node begins with its string, and the numbers that bitmaps hold, asked of the side on which a number is.
use mathlib.Core.Path.{◌≡◌, refl, sym, ap, ◌∙◌, subst}
use mathlib.Core.Bool.{Bool, true, false}
use mathlib.Core.List.{List, [], ◌∷◌, ◌++◌, append-nil}
use mathlib.Core.Logic.{◌⊎◌, inl, inr}
use Prim.Native.Nat.{ℕ, zero, suc, ◌≤◌, ◌<◌}
use native.Mathlib.Omega.{arith}
use lib.Dec.{eqb}
use lib.ListN.{length, get_or, take, drop, replicate, length-drop, length-replicate}
use lib.Seq.{length-take-le}
use borrow.Author.Tests.{ne_eqb}
use Rattle.lists.proofs.Each.{all_map, all_append}
use Rattle.lists.specs.Lists.{All, filter}
use Rattle.lists.proofs.Filter.{filter-pass, filter-append, filter_none}
use Rattle.bits.specs.Bits.{count, select_bit}
use Rattle.fibonacci.specs.Code.{codeword}
use Rattle.wavelet.specs.Nodes.{is_prefix, Tree, leaf, node, nodes}
use Rattle.wavelet.specs.Bitmaps.{need, row_of_bitmaps}
use Rattle.wavelet.specs.Questions.{uses, rank_in}
use Rattle.wavelet.specs.Leaves.{visits_in}
use Rattle.wavelet.proofs.Strings.{begins-trans, begins-front, begins-one}
use Rattle.wavelet.proofs.Merging.{merge-length, merge-at-one, merge-at-zero, all-merge}
use Rattle.wavelet.proofs.Merging.{Without, rank-merge-one, rank-merge-zero, select-merge-one, select-merge-zero}

-- every string and number of a tree begins with q
abbrev pub Under : ℕ → List Bool → Tree → Type 0
Under m q (leaf n) = (1 ≤ n) × (is_prefix q (codeword m n) ≡ true)
Under m q (node p z o) = (is_prefix q p ≡ true) × Under m (p ++ (false ∷ [])) z × Under m (p ++ (true ∷ [])) o

-- n stands at a leaf
abbrev pub Has : Tree → ℕ → Type 0
Has (leaf x) n = n ≡ x
Has (node p z o) n = Has z n ⊎ Has o n

pub has-begins : (m : ℕ) (q : List Bool) (t : Tree) (n : ℕ) → Under m q t → Has t n → (1 ≤ n) × (is_prefix q (codeword m n) ≡ true)
has-begins m q (leaf x) n u e = subst (λ (y : ℕ). (1 ≤ y) × (is_prefix q (codeword m y) ≡ true)) (sym e) u
has-begins m q (node p z o) n u (inl h) =
    let r = has-begins m (p ++ (false ∷ [])) z n u.1 h in
    (r.0, begins-trans q p (codeword m n) u.0 (begins-front p (codeword m n) false r.1))
has-begins m q (node p z o) n u (inr h) =
    let r = has-begins m (p ++ (true ∷ [])) o n u.2 h in
    (r.0, begins-trans q p (codeword m n) u.0 (begins-front p (codeword m n) true r.1))

-- a number whose codeword does not begin so stands nowhere in the tree
not_in : (m : ℕ) (q : List Bool) (t : Tree) (n : ℕ) → Under m q t → (is_prefix q (codeword m n) ≡ true → ⊥) → (x : ℕ) → Has t x → eqb n x ≡ false
not_in m q t n u none x h =
    ne_eqb n x (λ (e : n ≡ x). none (subst (λ (y : ℕ). is_prefix q (codeword m y) ≡ true) (sym e) (has-begins m q t x u h).1))

-- ## The numbers that bitmaps hold

-- no numbers, no bits
pub need-none : (t : Tree) (bits : List Bool) → need t 0 bits ≡ 0
unfolding need count
need-none (leaf n) bits = refl
need-none (node p z o) bits = omega (arith, need-none z bits, need-none o (drop (need z 0 bits) bits))

-- what comes after the bits of a node's 0 side
abbrev pub after_zero : Tree → ℕ → List Bool → List Bool
after_zero z k bits = drop (need z (count false (take k bits)) (drop k bits)) (drop k bits)

-- the numbers on a node's two sides
abbrev pub zero_side_row : Tree → ℕ → List Bool → List ℕ
zero_side_row z k bits = row_of_bitmaps z (count false (take k bits)) (drop k bits)

abbrev pub one_side_row : Tree → Tree → ℕ → List Bool → List ℕ
one_side_row z o k bits = row_of_bitmaps o (count true (take k bits)) (after_zero z k bits)

-- where there are enough bits for a node, there are for its bitmap and its sides
pub node-fits : (p : List Bool) (z o : Tree) (k : ℕ) (bits : List Bool) → need (node p z o) k bits ≤ length bits
    → (k ≤ length bits) × (need z (count false (take k bits)) (drop k bits) ≤ length (drop k bits))
    × (need o (count true (take k bits)) (after_zero z k bits) ≤ length (after_zero z k bits))
unfolding need
node-fits p z o k bits h =
    let a : ℕ = need z (count false (take k bits)) (drop k bits) in
    omega (arith, length-drop k bits, length-drop a (drop k bits))

pub row-length : (t : Tree) (k : ℕ) (bits : List Bool) → need t k bits ≤ length bits → length (row_of_bitmaps t k bits) ≡ k
unfolding row_of_bitmaps
row-length (leaf n) k bits h = length-replicate k n
row-length (node p z o) k bits h =
    merge-length (take k bits) (zero_side_row z k bits) (one_side_row z o k bits) ∙ length-take-le k bits (node-fits p z o k bits h).0

pub row_has : (t : Tree) (k : ℕ) (bits : List Bool) → need t k bits ≤ length bits → All (Has t) (row_of_bitmaps t k bits)
unfolding row_of_bitmaps
row_has (leaf n) k bits h = same k
  where
    same : (k : ℕ) → All (λ x. x ≡ n) (replicate k n)
    same zero = tt
    same (suc k) = (refl, same k)
row_has (node p z o) k bits h =
    let f = node-fits p z o k bits h in
    all-merge (Has (node p z o)) (take k bits) (zero_side_row z k bits) (one_side_row z o k bits)
    (row-length z _ (drop k bits) f.1) (row-length o _ (after_zero z k bits) f.2)
    (all_map (Has z) (Has (node p z o)) (λ x. inl) (zero_side_row z k bits) (row_has z _ (drop k bits) f.1))
    (all_map (Has o) (Has (node p z o)) (λ x. inr) (one_side_row z o k bits) (row_has o _ (after_zero z k bits) f.2))

module _ (m : ℕ) (q p : List Bool) (z o : Tree) (k : ℕ) (bits : List Bool) (u : Under m q (node p z o)) (h : need (node p z o) k bits ≤ length bits) where
  pub map-length : length (take k bits) ≡ k
  map-length = length-take-le k bits (node-fits p z o k bits h).0

  pub zero-length : length (zero_side_row z k bits) ≡ count false (take k bits)
  zero-length = row-length z _ (drop k bits) (node-fits p z o k bits h).1

  pub one-length : length (one_side_row z o k bits) ≡ count true (take k bits)
  one-length = row-length o _ (after_zero z k bits) (node-fits p z o k bits h).2

  -- a number stands on one side only
  none-zero : (n : ℕ) → is_prefix (p ++ (true ∷ [])) (codeword m n) ≡ true → Without n (zero_side_row z k bits)
  none-zero n e =
      all_map (Has z) (λ x. eqb n x ≡ false) (not_in m (p ++ (false ∷ [])) z n u.1 (λ f. begins-one p (codeword m n) f e)) (zero_side_row z k bits)
      (row_has z _ (drop k bits) (node-fits p z o k bits h).1)

  none-one : (n : ℕ) → is_prefix (p ++ (false ∷ [])) (codeword m n) ≡ true → Without n (one_side_row z o k bits)
  none-one n e =
      all_map (Has o) (λ x. eqb n x ≡ false) (not_in m (p ++ (true ∷ [])) o n u.2 (begins-one p (codeword m n) e)) (one_side_row z o k bits)
      (row_has o _ (after_zero z k bits) (node-fits p z o k bits h).2)

  -- the number at a place
  pub extract-one : (i : ℕ) → i < k → get_or (take k bits) i false ≡ true
      → get_or (row_of_bitmaps (node p z o) k bits) i 0 ≡ get_or (one_side_row z o k bits) (count true (take i (take k bits))) 0
  unfolding row_of_bitmaps
  extract-one i l e = merge-at-one (take k bits) (zero_side_row z k bits) (one_side_row z o k bits) i (omega (arith, map-length)) e

  pub extract-zero : (i : ℕ) → i < k → get_or (take k bits) i false ≡ false
      → get_or (row_of_bitmaps (node p z o) k bits) i 0 ≡ get_or (zero_side_row z k bits) (count false (take i (take k bits))) 0
  unfolding row_of_bitmaps
  extract-zero i l e = merge-at-zero (take k bits) (zero_side_row z k bits) (one_side_row z o k bits) i (omega (arith, map-length)) e

  -- how often n stands before a place
  pub rank-one : (n : ℕ) → is_prefix (p ++ (true ∷ [])) (codeword m n) ≡ true → (i : ℕ) → i ≤ k
      → rank_in (row_of_bitmaps (node p z o) k bits) n i ≡ rank_in (one_side_row z o k bits) n (count true (take i (take k bits)))
  unfolding row_of_bitmaps
  rank-one n e i l =
      rank-merge-one (take k bits) (zero_side_row z k bits) (one_side_row z o k bits) zero-length one-length n (none-zero n e) i (omega (arith, map-length))

  pub rank-zero : (n : ℕ) → is_prefix (p ++ (false ∷ [])) (codeword m n) ≡ true → (i : ℕ) → i ≤ k
      → rank_in (row_of_bitmaps (node p z o) k bits) n i ≡ rank_in (zero_side_row z k bits) n (count false (take i (take k bits)))
  unfolding row_of_bitmaps
  rank-zero n e i l =
      rank-merge-zero (take k bits) (zero_side_row z k bits) (one_side_row z o k bits) zero-length one-length n (none-one n e) i (omega (arith, map-length))

  -- where n stands
  pub select-one : (n : ℕ) → is_prefix (p ++ (true ∷ [])) (codeword m n) ≡ true → (j : ℕ)
      → select_bit true j (uses n (row_of_bitmaps (node p z o) k bits)) ≡ select_bit true (select_bit true j (uses n (one_side_row z o k bits))) (take k bits)
  unfolding row_of_bitmaps
  select-one n e = select-merge-one (take k bits) (zero_side_row z k bits) (one_side_row z o k bits) zero-length one-length n (none-zero n e)

  pub select-zero : (n : ℕ) → is_prefix (p ++ (false ∷ [])) (codeword m n) ≡ true → (j : ℕ)
      → select_bit true j (uses n (row_of_bitmaps (node p z o) k bits)) ≡ select_bit false (select_bit true j (uses n (zero_side_row z k bits))) (take k bits)
  unfolding row_of_bitmaps
  select-zero n e = select-merge-zero (take k bits) (zero_side_row z k bits) (one_side_row z o k bits) zero-length one-length n (none-one n e)

-- ## Visits

-- the nodes of a tree that begin the codeword of n
abbrev visited : ℕ → Tree → ℕ → List (List Bool)
visited m t n = filter (λ p. is_prefix p (codeword m n)) (nodes t)

pub visits-leaf : (m x n : ℕ) → visits_in m (leaf x) n ≡ 0
unfolding nodes filter
visits-leaf m x n = refl

pub nodes-begin : (m : ℕ) (q : List Bool) (t : Tree) → Under m q t → All (λ r. is_prefix q r ≡ true) (nodes t)
unfolding nodes
nodes-begin m q (leaf n) u = tt
nodes-begin m q (node p z o) u =
    (u.0, all_append (λ r. is_prefix q r ≡ true) (nodes z) (nodes o) (side false z (nodes-begin m _ z u.1)) (side true o (nodes-begin m _ o u.2)))
  where
    side : (a : Bool) (t : Tree) → All (λ r. is_prefix (p ++ (a ∷ [])) r ≡ true) (nodes t) → All (λ r. is_prefix q r ≡ true) (nodes t)
    side a t = all_map _ _ (λ r e. begins-trans q p r u.0 (begins-front p r a e)) (nodes t)

-- a number whose codeword does not begin so visits nothing in the tree
not-visited : (m : ℕ) (q : List Bool) (t : Tree) (n : ℕ) → Under m q t → (is_prefix q (codeword m n) ≡ true → ⊥) → visited m t n ≡ []
not-visited m q t n u none =
    filter_none (λ p. is_prefix p (codeword m n)) (nodes t) (all_map _ _ (λ r e. go r e (is_prefix r (codeword m n)) refl) (nodes t) (nodes-begin m q t u))
  where
    go : (r : List Bool) → is_prefix q r ≡ true → (v : Bool) → is_prefix r (codeword m n) ≡ v → is_prefix r (codeword m n) ≡ false
    go r e true f = absurd (none (begins-trans q r (codeword m n) e f))
    go r e false f = f

module _ (m : ℕ) (q p : List Bool) (z o : Tree) (u : Under m q (node p z o)) (n : ℕ) where
  visits-both : (a : Bool) → is_prefix (p ++ (a ∷ [])) (codeword m n) ≡ true → visited m (node p z o) n ≡ p ∷ (visited m z n ++ visited m o n)
  unfolding nodes
  visits-both a e =
      filter-pass (λ r. is_prefix r (codeword m n)) p (nodes z ++ nodes o) (begins-front p (codeword m n) a e)
      ∙ ap (λ (l : List (List Bool)). p ∷ l) (filter-append (λ r. is_prefix r (codeword m n)) (nodes z) (nodes o))

  -- a node, and the visits on the number's side
  pub visits-one : is_prefix (p ++ (true ∷ [])) (codeword m n) ≡ true → visits_in m (node p z o) n ≡ suc (visits_in m o n)
  visits-one e =
      let none : visited m z n ≡ [] = not-visited m (p ++ (false ∷ [])) z n u.1 (λ f. begins-one p (codeword m n) f e) in
      ap length (visits-both true e) ∙ ap (λ (l : List (List Bool)). suc (length (l ++ visited m o n))) none

  pub visits-zero : is_prefix (p ++ (false ∷ [])) (codeword m n) ≡ true → visits_in m (node p z o) n ≡ suc (visits_in m z n)
  visits-zero e =
      let none : visited m o n ≡ [] = not-visited m (p ++ (true ∷ [])) o n u.2 (begins-one p (codeword m n) e) in
      ap length (visits-both false e)
      ∙ ap (λ (l : List (List Bool)). suc (length l)) (ap (λ (l : List (List Bool)). visited m z n ++ l) none ∙ append-nil (visited m z n))
