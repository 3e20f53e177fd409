-- The checks that calls make: what it says that one is passed, that a chain of them accepts, and that each number of a row passes.
use mathlib.Core.Path.{◌≡◌, refl, sym, ◌∙◌}
use mathlib.Core.Bool.{Bool, true, false, not, ◌&&◌, ◌||◌, true≢false, false≢true}
use mathlib.Core.List.{List, [], ◌∷◌}
use Prim.Native.Nat.{ℕ, zero, suc, ◌+◌, ◌≤◌, ◌<◌}
use native.Mathlib.Omega.{arith}
use native.Mathlib.Numerals.{add-one}
use native.Mathlib.Decide.{dec_le}
use lib.Dec.{leb, ltb, eqb}
use lib.ListN.{length, get_or, drop}
use Rattle.lists.proofs.Lists.{drop-next}
use borrow.Author.Tests.{le-leb, lt-leb, leb-true, le-ltb, ltb-false, ne_eqb, eqb-false}
use Rattle.lists.specs.Lists.{All}
use Rattle.calls.specs.declared.Refusal.{Refusal}
use Rattle.calls.specs.Calls.{Outcome, check, and_then}
use Rattle.calls.specs.Limits.{within, is_order, Order, is_number, Legal, is_outside, check_each}
use Rattle.std.specs.Prelude.{Ok, Err}

-- ## One number

pub both : (a b : Bool) → (a && b) ≡ true → (a ≡ true) × (b ≡ true)
both true b e = (refl, e)
both false b e = absurd (false≢true e)

pub neither : (a b : Bool) → (a || b) ≡ false → (a ≡ false) × (b ≡ false)
neither true b e = absurd (true≢false e)
neither false b e = (refl, e)

pub within_both : (low high x : ℕ) → within low high x ≡ true → (low ≤ x) × (x ≤ high)
within_both low high x e = let p = both (leb low x) (leb x high) e in (leb-true low x p.0, leb-true x high p.1)

pub order_is : (m : ℕ) → is_order m ≡ true → Order m
unfolding is_order
order_is m e = within_both 2 6 m e

pub is-order : (m : ℕ) → Order m → is_order m ≡ true
unfolding is_order
is-order m h = simp (le-leb 2 m h.0, le-leb m 6 h.1)

pub number_is : (limit n : ℕ) → is_number limit n ≡ true → (1 ≤ n) × (n ≤ limit)
unfolding is_number
number_is limit n e = within_both 1 limit n e

pub is-number : (limit n : ℕ) → 1 ≤ n → n ≤ limit → is_number limit n ≡ true
unfolding is_number
is-number limit n p h = simp (le-leb 1 n p, le-leb n limit h)

pub above-number : (limit n : ℕ) → 1 ≤ n → limit < n → is_number limit n ≡ false
unfolding is_number
above-number limit n p h = simp (le-leb 1 n p, lt-leb n limit h)

-- a number is legal, or it is outside
pub number-inside : (limit n : ℕ) → is_number limit n ≡ true → is_outside limit n ≡ false
unfolding is_outside
number-inside limit n e = let h = number_is limit n e in simp (ne_eqb n 0 (λ z. omega arith), le-ltb limit n h.1)

pub inside-number : (limit n : ℕ) → is_outside limit n ≡ false → is_number limit n ≡ true
unfolding is_outside
inside-number limit n e =
    let p = neither (eqb n 0) (ltb limit n) e in
    let some : n ≡ 0 → ⊥ = eqb-false n 0 p.0 in
    is-number limit n (elim (dec_le 1 n) [ yes h ↦ h | no h ↦ absurd (some (omega arith)) ]) (ltb-false limit n p.1)

pub number-outside : (limit n : ℕ) → is_number limit n ≡ false → is_outside limit n ≡ true
number-outside limit n e = go (is_outside limit n) refl
  where
    go : (v : Bool) → is_outside limit n ≡ v → v ≡ true
    go true d = refl
    go false d = absurd (false≢true (sym e ∙ inside-number limit n d))

pub outside-is : (limit n : ℕ) → not (is_number limit n) ≡ is_outside limit n
outside-is limit n = go (is_number limit n) refl
  where
    go : (v : Bool) → is_number limit n ≡ v → not v ≡ is_outside limit n
    go true e = sym (number-inside limit n e)
    go false e = sym (number-outside limit n e)

-- the numbers of a row are from 1 up
pub positive : (limit : ℕ) (row : List ℕ) → Legal limit row → All (λ n. 1 ≤ n) row
positive limit [] a = tt
positive limit (n ∷ row) a = ((number_is limit n a.0).0, positive limit row a.1)

-- the number at a place of a legal row is legal
pub legal-at : (limit : ℕ) (row : List ℕ) (i : ℕ) → Legal limit row → i < length row → is_number limit (get_or row i 0) ≡ true
legal-at limit [] i a h = absurd (omega arith)
legal-at limit (n ∷ row) zero a h = a.0
legal-at limit (n ∷ row) (suc i) a h = legal-at limit row i a.1 (omega arith)

-- ## Chains of checks

pub not-both : {A : Type 0} {r : Refusal} {x : A} → ◌≡◌ {A = Outcome A} (Err r) (Ok x) → ⊥
not-both e = let z : ◌≡◌ {A = ℕ} 0 1 = cc in omega arith

pub accepted-one : {A : Type 0} {x y : A} → ◌≡◌ {A = Outcome A} (Ok x) (Ok y) → x ≡ y
accepted-one e = cc

pub refused-one : {A : Type 0} {r q : Refusal} → ◌≡◌ {A = Outcome A} (Err r) (Err q) → r ≡ q
refused-one e = cc

pub refused-same : {A B : Type 0} {r q : Refusal} → ◌≡◌ {A = Outcome A} (Err r) (Err q) → ◌≡◌ {A = Outcome B} (Err r) (Err q)
refused-same {r = r} {q = q} e = let a : r ≡ q = refused-one e in cc

-- what a chain of checks accepts has passed its first
pub check-passed : {A : Type 0} (r : Refusal) (t : Bool) (next : Outcome A) (x : A) → check r t next ≡ Ok x → (t ≡ false) × (next ≡ Ok x)
check-passed r true next x e = absurd (not-both e)
check-passed r false next x e = (refl, e)

-- what goes on after an accepted part has that part
pub then-passed : {A B : Type 0} (d : Outcome A) (next : A → Outcome B) (x : B) → and_then d next ≡ Ok x
    → (y : A) × (d ≡ Ok y) × (next y ≡ Ok x)
then-passed (Ok y) next x e = (y, refl, e)
then-passed (Err r) next x e = absurd (not-both e)

-- what comes after a check, or after a part, may be put into it
pub check-then : {A B : Type 0} (r : Refusal) (t : Bool) (d : Outcome A) (next : A → Outcome B) → and_then (check r t d) next ≡ check r t (and_then d next)
check-then r true d next = refl
check-then r false d next = refl

pub then-then : {A B C : Type 0} (d : Outcome A) (f : A → Outcome B) (next : B → Outcome C) → and_then (and_then d f) next ≡ and_then d (λ x. and_then (f x) next)
then-then (Ok x) f next = refl
then-then (Err r) f next = refl

-- two chains that begin with the same part answer alike where what comes after does
pub then_same : {A B : Type 0} (d : Outcome A) (f g : A → Outcome B) → ((x : A) → f x ≡ g x) → and_then d f ≡ and_then d g
then_same (Ok x) f g h = h x
then_same (Err r) f g h = refl

-- two chains that begin with the same check refuse alike where what comes after does
either : {A B : Type 0} (r : Refusal) (t : Bool) (x : Outcome A) (y : Outcome B) (q : Refusal) → (x ≡ Err q → y ≡ Err q)
    → check r t x ≡ Err q → check r t y ≡ Err q
either r true x y q go e = refused-same e
either r false x y q go e = go e

-- ## A part of a call that tells something of what the definition accepts

-- what was told of an accepted part is known of it
pub told-accepted : {A B : Type 0} (d : Outcome A) (f : A → B) (y : B) → Ok y ≡ and_then d (λ x. Ok (f x)) → (x : A) × (d ≡ Ok x) × (y ≡ f x)
told-accepted (Ok x) f y e = (x, refl, accepted-one e)
told-accepted (Err r) f y e = absurd (not-both (sym e))

-- and a refusal is that of the part
pub told-refused : {A B : Type 0} (d : Outcome A) (f : A → B) (r : Refusal) → Err r ≡ and_then d (λ x. Ok (f x)) → d ≡ Err r
told-refused (Ok x) f r e = absurd (not-both e)
told-refused (Err q) f r e = sym (refused-same e)

-- ## Each number of a row

pub each-passed : {A : Type 0} (fault : ℕ → Refusal) (limit place : ℕ) (row : List ℕ) (next : Outcome A) → Legal limit row
    → check_each fault limit place row next ≡ next
unfolding check_each
each-passed fault limit place [] next a = refl
each-passed fault limit place (n ∷ row) next a = rw (number-inside limit n a.0) (each-passed fault limit (suc place) row next a.1)

pub each-accepted : {A : Type 0} (fault : ℕ → Refusal) (limit place : ℕ) (row : List ℕ) (next : Outcome A) (x : A)
    → check_each fault limit place row next ≡ Ok x → Legal limit row × (next ≡ Ok x)
unfolding check_each
each-accepted fault limit place [] next x e = (tt, e)
each-accepted fault limit place (n ∷ row) next x e =
    let p = check-passed (fault place) (is_outside limit n) _ x e in
    let r = each-accepted fault limit (suc place) row next x p.1 in
    ((inside-number limit n p.0, r.0), r.1)

-- a refusal does not hang on what comes after
pub each-refused : {A B : Type 0} (fault : ℕ → Refusal) (limit place : ℕ) (row : List ℕ) (x : A) (r : Refusal) (next : Outcome B)
    → check_each fault limit place row (Ok x) ≡ Err r → check_each fault limit place row next ≡ Err r
unfolding check_each
each-refused fault limit place [] x r next e = absurd (not-both (sym e))
each-refused fault limit place (n ∷ row) x r next e =
    either (fault place) (is_outside limit n) _ _ r (each-refused fault limit (suc place) row x r next) e

-- number by number, with n at place i
module _ (fault : ℕ → Refusal) (limit : ℕ) (row : List ℕ) (i n : ℕ) (h : i < length row) (e : n ≡ get_or row i 0) where
  left : drop i row ≡ n ∷ drop (i + 1) row
  left = drop-next row i 0 h e

  pub each_more : {A : Type 0} (next : Outcome A) → is_number limit n ≡ true
      → check_each fault limit i (drop i row) next ≡ check_each fault limit (i + 1) (drop (i + 1) row) next
  unfolding check_each
  each_more next q = rw (left, number-inside limit n q, add-one)

  pub each-fault : {A : Type 0} (next : Outcome A) → is_number limit n ≡ false → check_each fault limit i (drop i row) next ≡ Err (fault i)
  unfolding check_each
  each-fault next q = rw (left, number-outside limit n q)
