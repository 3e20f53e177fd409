-- A walk down the tree of 1 .. N: where it stands, and what the tree is there.
use mathlib.Core.Path.{◌≡◌, refl, sym, ap, ◌∙◌}
use mathlib.Core.Bool.{Bool, true, false, true≢false, false≢true}
use mathlib.Core.List.{List, [], ◌∷◌, ◌++◌, append_assoc, append-nil, flatten, IsPrefix}
use mathlib.Core.Logic.{inr}
use Prim.Native.Nat.{ℕ, zero, suc, ◌+◌, ◌-◌, ◌≤◌, ◌<◌}
use native.Mathlib.Omega.{arith}
use native.Mathlib.Decide.{dec_le}
use lib.ListN.{length, get_or, drop, length-append, drop_of_length-le}
use borrow.Author.Tests.{le-leb, leb-true}
use Rattle.lists.specs.Lists.{values_from, filter}
use Rattle.lists.proofs.Filter.{filter-pass, filter-fail}
use Rattle.bits.specs.Bits.{same_bit}
use Rattle.codes.specs.Parse.{Parse, parsed}
use Rattle.fibonacci.specs.Code.{F, ones, runs, Codeword, value, first, number, codeword}
use Rattle.fibonacci.specs.Encoding.{IsParse, row_bits, parse}
use Rattle.calls.proofs.Checks.{both}
use Rattle.fibonacci.proofs.Runs.{runs-all}
use Rattle.fibonacci.proofs.Numeration.{F-pos}
use Rattle.fibonacci.proofs.Numbers.{first-suc, first-rises, value-append, number_of, number_one, number_digits, form-codeword, codeword-good, codeword-number}
use Rattle.fibonacci.proofs.Parse.{parse-is}
use Rattle.fibonacci.proofs.Rows.{bits-begin}
use Rattle.wavelet.specs.Nodes.{is_prefix, begins_some, leaf, node, prune}
use Rattle.wavelet.specs.Leaves.{Describes}
use Rattle.wavelet.proofs.Strings.{begins-rest, begins-append, begins-by, begins-trans, begins-next, begins-front}

-- ## Strings that codewords go on with

-- one of the numbers j, j + 1, .. , N of them, passes a test
some-passes : (t : ℕ → Bool) (j N : ℕ) → 1 ≤ length (filter t (values_from (λ n. n) j N)) → (n : ℕ) × (j ≤ n) × (n < j + N) × (t n ≡ true)
some-passes t j zero h = absurd (unfold filter in omega arith)
some-passes t j (suc N) h = go (t j) refl (some-passes t (suc j) N)
  where
    go : (v : Bool) → t j ≡ v
        → (1 ≤ length (filter t (values_from (λ n. n) (suc j) N)) → (n : ℕ) × (suc j ≤ n) × (n < suc j + N) × (t n ≡ true))
        → (n : ℕ) × (j ≤ n) × (n < j + suc N) × (t n ≡ true)
    go true e ih = (j, omega arith, omega arith, e)
    go false e ih = let x = ih (rw (filter-fail t j _ e) at h) in (x.0, omega arith, omega arith, x.3)

passes : (t : ℕ → Bool) (j N n : ℕ) → j ≤ n → n < j + N → t n ≡ true → 1 ≤ length (filter t (values_from (λ n. n) j N))
passes t j zero n a b e = absurd (omega arith)
passes t j (suc N) n a b e = go (t j) refl (λ l. passes t (suc j) N n l (omega arith) e)
  where
    go : (v : Bool) → t j ≡ v → (suc j ≤ n → 1 ≤ length (filter t (values_from (λ n. n) (suc j) N))) → 1 ≤ length (filter t (values_from (λ n. n) j (suc N)))
    go true d ih = rw (filter-pass t j (values_from (λ n. n) (suc j) N) d) (omega arith)
    go false d ih =
        elim (dec_le n j) [
          | yes l ↦ let s : n ≡ j = omega arith in absurd (true≢false (sym e ∙ ap t s ∙ d))
          | no l ↦ rw (filter-fail t j (values_from (λ n. n) (suc j) N) d) (ih (omega arith))
        ]

-- some codeword of 1 .. N goes on with p
pub goes_some : (m N : ℕ) (p : List Bool) → begins_some m N p ≡ true → (n : ℕ) × (1 ≤ n) × (n ≤ N) × (is_prefix p (codeword m n) ≡ true)
unfolding begins_some
goes_some m N p e =
    let x = some-passes (λ n. is_prefix p (codeword m n)) 1 N (leb-true 1 _ e) in
    (x.0, x.1, omega arith, x.3)

pub goes_on : (m N : ℕ) (p : List Bool) (n : ℕ) → 1 ≤ n → n ≤ N → is_prefix p (codeword m n) ≡ true → begins_some m N p ≡ true
unfolding begins_some
goes_on m N p n a b e = le-leb 1 _ (passes (λ n. is_prefix p (codeword m n)) 1 N n a (omega arith) e)

-- none does
goes-not : (m N : ℕ) (p : List Bool) → ((n : ℕ) → 1 ≤ n → n ≤ N → is_prefix p (codeword m n) ≡ true → ⊥) → begins_some m N p ≡ false
goes-not m N p none = go (begins_some m N p) refl
  where
    go : (v : Bool) → begins_some m N p ≡ v → v ≡ false
    go true e = let x = goes_some m N p e in absurd (none x.0 x.1 x.2 x.3)
    go false e = refl

-- ## One codeword never begins another

one_number : (m a n : ℕ) → 1 ≤ m → 1 ≤ a → 1 ≤ n → is_prefix (codeword m a) (codeword m n) ≡ true → a ≡ n
unfolding row_bits flatten
one_number m a n p ha hn e =
    let d : List Bool = drop (length (codeword m a)) (codeword m n) in
    let x : IsPrefix (row_bits m (a ∷ [])) (row_bits m (n ∷ [])) =
    (d, ap (λ (l : List Bool). l ++ d) (append-nil (codeword m a)) ∙ begins-rest (codeword m a) (codeword m n) e ∙ sym (append-nil (codeword m n))) in
    let y = (bits-begin m (a ∷ []) (n ∷ []) p (ha, tt) (hn, tt)).0 x in
    let same : a ∷ y.0 ≡ n ∷ [] = y.1 in cc

one-codeword : (m : ℕ) (a b : List Bool) → 1 ≤ m → Codeword m a → Codeword m b → is_prefix a b ≡ true → a ≡ b
one-codeword m a b p ca cb e =
    let x = codeword-number m a p ca in
    let y = codeword-number m b p cb in
    let same : number m a ≡ number m b = one_number m (number m a) (number m b) p x.1 y.1 (rw (x.0, y.0) e) in
    sym x.0 ∙ ap (codeword m) same ∙ y.0

-- so what stands before more of a codeword has no m ones in a row
pub runs-before : (m : ℕ) (q : List Bool) (a : Bool) (t : List Bool) → 1 ≤ m → Codeword m (q ++ (a ∷ t)) → runs m q ≡ 0
unfolding flatten
runs-before m q a t p c = go (parse m q) (parse-is m q p)
  where
    go : (s : Parse Bool) → IsParse m q s → runs m q ≡ 0
    go (parsed [] r) i = ap (runs m) (sym i.joined) ∙ i.free
    go (parsed (v ∷ ws) r) i =
        let x : List Bool = flatten ws ++ r in
        let e : v ++ x ≡ q = sym (append_assoc v (flatten ws) r) ∙ i.joined in
        let same = one-codeword m v (q ++ (a ∷ t)) p i.coded.0 c (begins-trans v q (q ++ (a ∷ t)) (begins-by v x q e) (begins-append q (a ∷ t))) in
        absurd (omega (arith, ap length same, ap length e, length-append v x, length-append q (a ∷ t)))

-- ## The codeword that goes on with a 0 and then m ones is the first that goes on with a 0

not-in-ones : (q : List Bool) (m : ℕ) → is_prefix (q ++ (false ∷ [])) (ones m) ≡ true → ⊥
unfolding is_prefix
not-in-ones [] zero e = false≢true e
not-in-ones [] (suc m) e = false≢true e
not-in-ones (a ∷ q) zero e = false≢true e
not-in-ones (a ∷ q) (suc m) e = not-in-ones q m (both (same_bit a true) _ e).1

before-ones : (q b : List Bool) (m : ℕ) → is_prefix (q ++ (false ∷ [])) (b ++ ones m) ≡ true → is_prefix (q ++ (false ∷ [])) b ≡ true
unfolding is_prefix
before-ones q [] m e = absurd (not-in-ones q m e)
before-ones [] (c ∷ b) m e = e
before-ones (a ∷ q) (c ∷ b) m e =
    let h = both (same_bit a c) _ e in
    rw h.0 (before-ones q b m h.1)

pub next-number : (m : ℕ) (q : List Bool) → number m (q ++ (false ∷ ones m)) ≡ first m (suc (length q)) + value m 1 q
unfolding first
next-number m q = number_digits m q

pub next-least : (m : ℕ) (q : List Bool) (n : ℕ) → 1 ≤ m → 1 ≤ n → is_prefix (q ++ (false ∷ [])) (codeword m n) ≡ true
    → number m (q ++ (false ∷ ones m)) ≤ n
unfolding value
next-least m q n p h e =
    let good = codeword-good m n p h in
    let c = good.0 in
    let b : List Bool = c.body in
    let q0 : List Bool = q ++ (false ∷ []) in
    let f : is_prefix q0 b ≡ true = before-ones q b m (ap (is_prefix q0) (sym c.ends) ∙ e) in
    let y : List Bool = drop (length q0) b in
    let g : q0 ++ y ≡ b = begins-rest q0 b f in
    let same_bit : number m (codeword m n) ≡ first m (length b) + value m 1 b = ap (number m) c.ends ∙ number_of m b in
    let same : value m 1 (q0 ++ y) ≡ value m 1 b = ap (value m 1) g in
    let long : suc (length q) ≤ length b = omega (arith, ap length g, length-append q0 y, length-append q (false ∷ [])) in
    omega (arith, good.1, next-number m q, first-rises m long, value-append m 1 q0 y, value-append m 1 q (false ∷ []))

next-zero : (m : ℕ) (q : List Bool) → number m ((q ++ (false ∷ [])) ++ (false ∷ ones m)) ≡ number m (q ++ (false ∷ ones m)) + F m (suc (length q))
unfolding value
next-zero m q =
    let l : length (q ++ (false ∷ [])) ≡ suc (length q) = omega (arith, length-append q (false ∷ [])) in
    let up : first m (suc (length (q ++ (false ∷ [])))) ≡ first m (suc (suc (length q))) = ap (λ (x : ℕ). first m (suc x)) l in
    omega (arith, next-number m q, next-number m (q ++ (false ∷ [])), first-suc m (suc (length q)), value-append m 1 q (false ∷ []))

next_one : (m : ℕ) (q : List Bool)
    → number m ((q ++ (true ∷ [])) ++ (false ∷ ones m)) ≡ number m (q ++ (false ∷ ones m)) + F m (suc (length q)) + F m (suc (length q))
unfolding value
next_one m q =
    let l : length (q ++ (true ∷ [])) ≡ suc (length q) = omega (arith, length-append q (true ∷ [])) in
    let e : F m (1 + length q) ≡ F m (suc (length q)) = ap (F m) (omega arith) in
    let up : first m (suc (length (q ++ (true ∷ [])))) ≡ first m (suc (suc (length q))) = ap (λ (x : ℕ). first m (suc x)) l in
    omega (arith, next-number m q, next-number m (q ++ (true ∷ [])), first-suc m (suc (length q)), value-append m 1 q (true ∷ []))

-- ## Where a walk stands

pub cursor-root : (m N : ℕ) → 1 ≤ m → 1 ≤ N → Describes m N (m + N) [] 0 2 0 1
unfolding value first
cursor-root m N p h =
    record {
      order = p;
      long = refl;
      k = m;
      all = omega arith;
      finished = record { once = runs-all m p; body = []; ends = refl };
      number_is = number_one m;
      next_is = number_of m (false ∷ []);
      small = h;
      fuel = omega arith;
    }

-- ## The steps of the tree

prune-node : (m N g : ℕ) (q : List Bool) → begins_some m N (q ++ (false ∷ [])) ≡ true → begins_some m N (q ++ (true ∷ [])) ≡ true
    → prune m N (suc g) q ≡ node q (prune m N g (q ++ (false ∷ []))) (prune m N g (q ++ (true ∷ [])))
unfolding prune
prune-node m N g q a b = rw (a, b, prune)

prune-one : (m N g : ℕ) (q : List Bool) → begins_some m N (q ++ (false ∷ [])) ≡ false → begins_some m N (q ++ (true ∷ [])) ≡ true
    → prune m N (suc g) q ≡ prune m N g (q ++ (true ∷ []))
unfolding prune
prune-one m N g q a b = rw (a, b, prune)

prune-none : (m N f : ℕ) (q : List Bool) → begins_some m N (q ++ (false ∷ [])) ≡ false → begins_some m N (q ++ (true ∷ [])) ≡ false
    → prune m N f q ≡ leaf (number m q)
unfolding prune
prune-none m N zero q a b = refl
prune-none m N (suc g) q a b = rw (a, b, prune)

-- ## What goes on after a string

begins-length : (p b : List Bool) → is_prefix p b ≡ true → length p ≤ length b
begins-length p b e = omega (arith, ap length (begins-rest p b e), length-append p (drop (length p) b))

begins-all : (p b : List Bool) → is_prefix p b ≡ true → length b ≤ length p → p ≡ b
begins-all p b e h = sym (append-nil p) ∙ ap (λ (l : List Bool). p ++ l) (sym (drop_of_length-le b h)) ∙ begins-rest p b e

pub goes-codeword : (m N : ℕ) (p t : List Bool) → 1 ≤ m → Codeword m (p ++ t) → number m (p ++ t) ≤ N → begins_some m N p ≡ true
goes-codeword m N p t h c l =
    let x = codeword-number m (p ++ t) h c in
    goes_on m N p (number m (p ++ t)) x.1 l (rw x.0 (begins-append p t))

-- a string that is a codeword begins no other
only-itself : (m : ℕ) (q : List Bool) (n : ℕ) → 1 ≤ m → Codeword m q → 1 ≤ n → is_prefix q (codeword m n) ≡ true → q ≡ codeword m n
only-itself m q n p c h e = one-codeword m q (codeword m n) p c (codeword-good m n p h).0 e

ended : (m N : ℕ) (q : List Bool) (a : Bool) → 1 ≤ m → Codeword m q → begins_some m N (q ++ (a ∷ [])) ≡ false
ended m N q a p c =
    goes-not m N (q ++ (a ∷ [])) (λ n h l e.
    let same = only-itself m q n p c h (begins-front q (codeword m n) a e) in
    omega (arith, ap length same, begins-length (q ++ (a ∷ [])) (codeword m n) e, length-append q (a ∷ [])))

no_zero : (m N : ℕ) (q : List Bool) → 1 ≤ m → N < number m (q ++ (false ∷ ones m)) → begins_some m N (q ++ (false ∷ [])) ≡ false
no_zero m N q p h = goes-not m N (q ++ (false ∷ [])) (λ n a b e. omega (arith, next-least m q n p a e))

-- a string that begins a longer codeword is none
longer : (m k : ℕ) (q : List Bool) (n : ℕ) → 1 ≤ m → Codeword m (q ++ ones (suc k)) → 1 ≤ n → is_prefix q (codeword m n) ≡ true
    → length q < length (codeword m n)
longer m k q n p c h e =
    elim (dec_le (suc (length q)) (length (codeword m n))) [
      | yes l ↦ l
      | no l ↦
          let x : q ≡ codeword m n = begins-all q (codeword m n) e (omega arith) in
          let f : is_prefix (codeword m n) (q ++ ones (suc k)) ≡ true = rw (← x) (begins-append q (ones (suc k))) in
          let same = one-codeword m (codeword m n) (q ++ ones (suc k)) p (codeword-good m n p h).0 c f in
          absurd (omega (arith, ap length x, ap length same, length-append q (ones (suc k))))
    ]

one_more : (k : ℕ) (q : List Bool) → (q ++ (true ∷ [])) ++ ones k ≡ q ++ ones (suc k)
one_more k q = append_assoc q (true ∷ []) (ones k)

-- where the next 0 is too high, ones are left to the end
high-leaf : (m N k f : ℕ) (q : List Bool) → 1 ≤ m → k ≤ f → Codeword m (q ++ ones k) → number m (q ++ ones k) ≤ N → N < number m (q ++ (false ∷ ones m))
    → prune m N f q ≡ leaf (number m (q ++ ones k))
high-leaf m N zero f q p b c l h =
    let d : Codeword m q = rw append-nil at c in
    prune-none m N f q (ended m N q false p d) (ended m N q true p d) ∙ ap (λ (x : List Bool). leaf (number m x)) (sym (append-nil q))
high-leaf m N (suc k) zero q p b c l h = absurd (omega arith)
high-leaf m N (suc k) (suc f) q p b c l h =
    let e = one_more k q in
    let d : Codeword m ((q ++ (true ∷ [])) ++ ones k) = rw e c in
    let i : number m ((q ++ (true ∷ [])) ++ ones k) ≤ N = rw e l in
    prune-one m N f q (no_zero m N q p h) (goes-codeword m N (q ++ (true ∷ [])) (ones k) p d i)
    ∙ high-leaf m N k f (q ++ (true ∷ [])) p (omega arith) d i (omega (arith, next_one m q)) ∙ ap (λ (x : List Bool). leaf (number m x)) e

full-number : (m : ℕ) (q : List Bool) (n : ℕ) → 1 ≤ m → Codeword m q → 1 ≤ n → is_prefix q (codeword m n) ≡ true → n ≡ number m q
full-number m q n p c h e = sym (codeword-good m n p h).1 ∙ ap (number m) (sym (only-itself m q n p c h e))

high-number : (m N k : ℕ) (q : List Bool) (n : ℕ) → 1 ≤ m → Codeword m (q ++ ones k) → N < number m (q ++ (false ∷ ones m)) → 1 ≤ n → n ≤ N
    → is_prefix q (codeword m n) ≡ true → n ≡ number m (q ++ ones k)
high-number m N zero q n p c h a b e =
    let d : q ++ [] ≡ q = append-nil q in
    full-number m (q ++ []) n p c a (rw d e)
high-number m N (suc k) q n p c h a b e =
    go (get_or (codeword m n) (length q) false) refl
    (λ f. high-number m N k (q ++ (true ∷ [])) n p (rw (one_more k q) c) (omega (arith, next_one m q)) a b f ∙ ap (number m) (one_more k q))
  where
    go : (v : Bool) → get_or (codeword m n) (length q) false ≡ v
        → (is_prefix (q ++ (true ∷ [])) (codeword m n) ≡ true → n ≡ number m (q ++ ones (suc k))) → n ≡ number m (q ++ ones (suc k))
    go true d ih = ih (begins-next q (codeword m n) true e (longer m k q n p c a e) d)
    go false d ih = absurd (omega (arith, next-least m q n p a (begins-next q (codeword m n) false e (longer m k q n p c a e) d)))

-- ## A walk at a node, and elsewhere

-- At a node of the tree: g bits are left after the next, and where a walk stands on the 0 side and on the 1 side
pub record AtNode (m N f : ℕ) (q : List Bool) (s w r c : ℕ) : Type 0 where
  pub g : ℕ
  pub fuel_is : f ≡ suc g
  pub tree_is : prune m N f q ≡ node q (prune m N g (q ++ (false ∷ []))) (prune m N g (q ++ (true ∷ [])))
  pub zero_side : Describes m N g (q ++ (false ∷ [])) (s + 1) (w + F m (s + 1)) 0 w
  pub one_side : Describes m N g (q ++ (true ∷ [])) (s + 1) (w + F m (s + 1) + F m (s + 1)) (r + 1) c

pub cursor-node : {m N f : ℕ} {q : List Bool} {s w r c : ℕ} → Describes m N f q s w r c → r < m → w ≤ N → AtNode m N f q s w r c
cursor-node {m} {N} {f} {q} {s} {w} {r} {c} a low h = go a.k f a.all a.finished a.number_is a.fuel
  where
    q0 : List Bool
    q0 = q ++ (false ∷ [])

    q1 : List Bool
    q1 = q ++ (true ∷ [])

    go : (k f : ℕ) → k + r ≡ m → Codeword m (q ++ ones k) → number m (q ++ ones k) ≡ c → (suc N - w) + m ≤ f → AtNode m N f q s w r c
    go zero f e d v b = absurd (omega arith)
    go (suc k) zero e d v b = absurd (omega arith)
    go (suc k) (suc g) e d v b =
        let p : 1 ≤ m = a.order in
        let at : F m (suc (length q)) ≡ F m (s + 1) = ap (F m) (omega (arith, a.long)) in
        let z : q0 ++ ones m ≡ q ++ (false ∷ ones m) = append_assoc q (false ∷ []) (ones m) in
        let o : q1 ++ ones k ≡ q ++ ones (suc k) = one_more k q in
        let zc : Codeword m (q0 ++ ones m) = form-codeword m _ p (inr (q, z, runs-before m q true (ones k) p d)) in
        let zn : number m (q0 ++ ones m) ≡ w = ap (number m) z ∙ a.next_is in
        let oc : Codeword m (q1 ++ ones k) = rw o d in
        let on : number m (q1 ++ ones k) ≡ c = ap (number m) o ∙ v in
        record {
          g = g;
          fuel_is = refl;
          tree_is = prune-node m N g q (goes-codeword m N q0 (ones m) p zc (omega arith)) (goes-codeword m N q1 (ones k) p oc (omega (arith, a.small)));
          zero_side = record {
            order = p;
            long = omega (arith, length-append q (false ∷ []), a.long);
            k = m;
            all = omega arith;
            finished = zc;
            number_is = zn;
            next_is = omega (arith, next-zero m q, a.next_is);
            small = h;
            fuel = omega (arith, F-pos m (s + 1) p);
          };
          one_side = record {
            order = p;
            long = omega (arith, length-append q (true ∷ []), a.long);
            k = k;
            all = omega arith;
            finished = oc;
            number_is = on;
            next_is = omega (arith, next_one m q, a.next_is);
            small = a.small;
            fuel = omega (arith, F-pos m (s + 1) p);
          };
        }

-- the number of the codeword that goes on with a 0 and m ones is not below the first with as many bits before them
pub cursor-low : {m N f : ℕ} {q : List Bool} {s w r c : ℕ} → Describes m N f q s w r c → first m (s + 1) ≤ w
cursor-low {m} {q = q} {s} a =
    let e : suc (length q) ≡ s + 1 = omega (arith, a.long) in
    omega (arith, next-number m q, a.next_is, ap (first m) e)

-- the codeword that goes on with ones only
pub cursor-number : {m N f : ℕ} {q : List Bool} {s w r c : ℕ} → Describes m N f q s w r c → (1 ≤ c) × (is_prefix q (codeword m c) ≡ true)
cursor-number {m} {q = q} {c = c} a =
    let x = codeword-number m (q ++ ones a.k) a.order a.finished in
    let e : codeword m c ≡ q ++ ones a.k = ap (codeword m) (sym a.number_is) ∙ x.0 in
    (omega (arith, x.1, a.number_is), rw e (begins-append q (ones a.k)))

module _ {m N f : ℕ} {q : List Bool} {s w r c : ℕ} (a : Describes m N f q s w r c) where
  -- elsewhere a leaf
  pub cursor-high : N < w → prune m N f q ≡ leaf c
  cursor-high h =
      high-leaf m N a.k f q a.order (omega arith) a.finished (omega (arith, a.number_is, a.small)) (omega (arith, a.next_is))
      ∙ ap leaf a.number_is

  -- with m ones at its end, q is a codeword
  full : m ≤ r → q ++ ones a.k ≡ q
  full h =
      let z : a.k ≡ 0 = omega arith in
      ap (λ (x : ℕ). q ++ ones x) z ∙ append-nil q

  full-codeword : m ≤ r → Codeword m q
  full-codeword h = rw (full h) at a.finished

  full_is : m ≤ r → number m q ≡ c
  full_is h = ap (number m) (sym (full h)) ∙ a.number_is

  pub cursor-full : m ≤ r → prune m N f q ≡ leaf c
  cursor-full h =
      let d = full-codeword h in
      prune-none m N f q (ended m N q false a.order d) (ended m N q true a.order d) ∙ ap leaf (full_is h)

  -- at a leaf only the number c is left
  pub high-only : N < w → (n : ℕ) → 1 ≤ n → n ≤ N → is_prefix q (codeword m n) ≡ true → n ≡ c
  high-only h n i l e = high-number m N a.k q n a.order a.finished (omega (arith, a.next_is)) i l e ∙ a.number_is

  pub full-only : m ≤ r → (n : ℕ) → 1 ≤ n → is_prefix q (codeword m n) ≡ true → n ≡ c
  full-only h n i e = full-number m q n a.order (full-codeword h) i e ∙ full_is h

  -- at a node the codeword of a number below it is longer than q
  pub cursor-longer : r < m → (n : ℕ) → 1 ≤ n → is_prefix q (codeword m n) ≡ true → length q < length (codeword m n)
  cursor-longer h n i e = go a.k a.all a.finished
    where
      go : (k : ℕ) → k + r ≡ m → Codeword m (q ++ ones k) → length q < length (codeword m n)
      go zero g d = absurd (omega arith)
      go (suc k) g d = longer m k q n a.order d i e
