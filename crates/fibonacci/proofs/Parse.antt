-- Every string of bits is made in exactly one way of codewords and a rest without m ones in a row: its parse.
use mathlib.Core.Path.{◌≡◌, refl, sym, ap, ◌∙◌, subst}
use mathlib.Core.Bool.{Bool, true, false}
use mathlib.Core.List.{List, [], ◌∷◌, ◌++◌, append_assoc, append-nil, flatten}
use mathlib.Core.Logic.{⊎_elim}
use Prim.Native.Nat.{ℕ, zero, suc, ◌+◌, ◌≤◌, ◌<◌}
use native.Mathlib.Omega.{arith}
use native.Mathlib.Nat.{zero-add, eq-or-lt_of_le}
use lib.ListN.{replicate-append-replicate}
use borrow.Author.Tests.{eq-eqb, ne_eqb}
use Rattle.lists.specs.Lists.{All}
use Rattle.codes.specs.Parse.{Parse, parsed, codewords, rest, push, prepend}
use Rattle.codes.proofs.Parse.{push-joined, prepend-joined, push-prepend}
use Rattle.codes.proofs.Codes as codes
use Rattle.codes.proofs.Codes.{IsCode}
use Rattle.fibonacci.specs.Code.{ones, leading_ones, runs, Codeword, number, codeword}
use Rattle.fibonacci.specs.Encoding.{Rest, IsParse, parse_after, parse}
use Rattle.fibonacci.proofs.Runs.{runs-more, runs_after, lead-ones, runs-ones, runs-all, ones-on, runs-reset, runs-full}
use Rattle.fibonacci.proofs.Numbers.{codeword-good, codeword-number}

-- ## The steps of the parse

pub after-full : (m k : ℕ) (b : List Bool) → suc k ≡ m → parse_after m k (true ∷ b) ≡ prepend (true ∷ []) (parse_after m 0 b)
unfolding parse_after
after-full m k b h = rw (eq-eqb (suc k) m h, parse_after)

pub after_one : (m k : ℕ) (b : List Bool) → suc k < m → parse_after m k (true ∷ b) ≡ push true (parse_after m (suc k) b)
unfolding parse_after
after_one m k b h = rw (ne_eqb (suc k) m (λ e. omega arith), parse_after)

-- ## The parse is codewords and a rest

after-joined : (m k : ℕ) (b : List Bool) → k < m → flatten (codewords (parse_after m k b)) ++ rest (parse_after m k b) ≡ b
unfolding parse_after flatten
after-joined m k [] h = refl
after-joined m k (false ∷ b) h = push-joined false (parse_after m 0 b) ∙ ap (λ (l : List Bool). false ∷ l) (after-joined m 0 b (omega arith))
after-joined m k (true ∷ b) h =
    ⊎_elim
    (λ (e : suc k ≡ m). rw (after-full m k b e) (prepend-joined (true ∷ []) (parse_after m 0 b) ∙ ap (λ (l : List Bool). true ∷ l) (after-joined m 0 b (omega arith))))
    (λ (l : suc k < m). rw (after_one m k b l) (push-joined true (parse_after m (suc k) b) ∙ ap (λ (l : List Bool). true ∷ l) (after-joined m (suc k) b l)))
    (eq-or-lt_of_le h)

-- s is codewords and a rest of what follows k ones, which belong to its first codeword
Fits : ℕ → ℕ → Parse Bool → Type 0
Fits m k (parsed [] r) = runs m (ones k ++ r) ≡ 0
Fits m k (parsed (w ∷ ws) r) = Codeword m (ones k ++ w) × All (Codeword m) ws × (runs m r ≡ 0)

fits-false : (m k : ℕ) (s : Parse Bool) → k < m → Fits m 0 s → Fits m k (push false s)
unfolding Fits
fits-false m k (parsed [] r) h f = runs-reset m k r h ∙ f
fits-false m k (parsed (w ∷ ws) r) h f =
    let c = f.0 in (
      record {
        once = runs-reset m k w h ∙ c.once;
        body = ones k ++ (false ∷ c.body);
        ends = ap (λ (l : List Bool). ones k ++ (false ∷ l)) c.ends ∙ sym (append_assoc (ones k) (false ∷ c.body) (ones m));
      },
      f.1,
      f.2,
    )

fits-true : (m k : ℕ) (s : Parse Bool) → Fits m (suc k) s → Fits m k (push true s)
unfolding Fits
fits-true m k (parsed [] r) f = rw (ones-on k r) f
fits-true m k (parsed (w ∷ ws) r) f = rw (ones-on k w) f

fits_all : (m : ℕ) (s : Parse Bool) → Fits m 0 s → All (Codeword m) (codewords s) × (runs m (rest s) ≡ 0)
unfolding Fits
fits_all m (parsed [] r) f = (tt, f)
fits_all m (parsed (w ∷ ws) r) f = ((f.0, f.1), f.2)

fits-full : (m k : ℕ) (s : Parse Bool) → suc k ≡ m → Fits m 0 s → Fits m k (prepend (true ∷ []) s)
unfolding Fits
fits-full m k (parsed ws r) h f =
    let e : ones k ++ (true ∷ []) ≡ ones m = ones-on k [] ∙ ap (λ (l : List Bool). true ∷ l) (append-nil (ones k)) ∙ ap ones h in
    let all = fits_all m (parsed ws r) f in
    (record { once = ap (runs m) e ∙ runs-all m (omega arith); body = []; ends = e }, all.0, all.1)

after-fits : (m k : ℕ) (b : List Bool) → k < m → Fits m k (parse_after m k b)
unfolding Fits parse_after
after-fits m k [] h = ap (runs m) (append-nil (ones k)) ∙ runs-ones m k h
after-fits m k (false ∷ b) h = fits-false m k (parse_after m 0 b) h (after-fits m 0 b (omega arith))
after-fits m k (true ∷ b) h =
    ⊎_elim
    (λ (e : suc k ≡ m). rw (after-full m k b e) (fits-full m k (parse_after m 0 b) e (after-fits m 0 b (omega arith))))
    (λ (l : suc k < m). rw (after_one m k b l) (fits-true m k (parse_after m (suc k) b) (after-fits m (suc k) b l)))
    (eq-or-lt_of_le h)

pub parse-is : (m : ℕ) (b : List Bool) → 1 ≤ m → IsParse m b (parse m b)
unfolding parse
parse-is m b p =
    let f = fits_all m (parse_after m 0 b) (after-fits m 0 b p) in
    record { joined = after-joined m 0 b p; coded = f.0; free = f.1 }

-- ## It is the only such one

after-ones : (m k j : ℕ) (t : List Bool) → k + suc j ≡ m → parse_after m k (ones (suc j) ++ t) ≡ prepend (ones (suc j)) (parse_after m 0 t)
after-ones m k zero t h = after-full m k t (omega arith)
after-ones m k (suc j) t h =
    after_one m k (ones (suc j) ++ t) (omega arith) ∙ ap (push true) (after-ones m (suc k) j t (omega arith)) ∙ push-prepend true (ones (suc j)) (parse_after m 0 t)

-- a codeword that goes on after m ones would have two runs
two_runs : (m k : ℕ) (p : List Bool) → suc k ≡ m → 2 ≤ runs m (ones k ++ (true ∷ (p ++ ones m)))
two_runs m k p h =
    rw (ones-on k (p ++ ones m))
    (omega (arith, runs-full m k (p ++ ones m) h, runs_after m (ones k) (p ++ ones m), runs_after m p (ones m), runs-all m (omega arith)))

after-codeword : (m k : ℕ) (p t : List Bool) → k < m → runs m (ones k ++ (p ++ ones m)) ≡ 1
    → parse_after m k ((p ++ ones m) ++ t) ≡ prepend (p ++ ones m) (parse_after m 0 t)
unfolding parse_after
after-codeword zero k [] t h q = absurd (omega arith)
after-codeword (suc m) zero [] t h q = after-ones (suc m) 0 m t (zero-add _)
after-codeword (suc m) (suc k) [] t h q =
    absurd (omega (
      arith,
      runs-more (suc m) (ones k ++ ones (suc m)) (omega (arith, ap leading_ones (replicate-append-replicate k (suc m) true), lead-ones (k + suc m))),
      runs_after (suc m) (ones k) (ones (suc m)),
      runs-all (suc m) (omega arith),
    ))
after-codeword m k (false ∷ p) t h q =
    ap (push false) (after-codeword m 0 p t (omega arith) (sym (runs-reset m k (p ++ ones m) h) ∙ q)) ∙ push-prepend false (p ++ ones m) (parse_after m 0 t)
after-codeword m k (true ∷ p) t h q =
    ⊎_elim
    (λ (e : suc k ≡ m). absurd (omega (arith, two_runs m k p e)))
    (λ (l : suc k < m).
    after_one m k ((p ++ ones m) ++ t) l ∙ ap (push true) (after-codeword m (suc k) p t l (rw ones-on at q)) ∙ push-prepend true (p ++ ones m) (parse_after m 0 t))
    (eq-or-lt_of_le h)

after-rest : (m k : ℕ) (r : List Bool) → k < m → runs m (ones k ++ r) ≡ 0 → parse_after m k r ≡ parsed [] r
unfolding parse_after
after-rest m k [] h q = refl
after-rest m k (false ∷ r) h q = ap (push false) (after-rest m 0 r (omega arith) (sym (runs-reset m k r h) ∙ q))
after-rest m k (true ∷ r) h q =
    ⊎_elim
    (λ (e : suc k ≡ m). absurd (omega (arith, runs-full m k r e, ap (runs m) (ones-on k r))))
    (λ (l : suc k < m). after_one m k r l ∙ ap (push true) (after-rest m (suc k) r l (rw ones-on at q)))
    (eq-or-lt_of_le h)

parse-front : (m : ℕ) (w t : List Bool) → 1 ≤ m → Codeword m w → parse m (w ++ t) ≡ prepend w (parse m t)
unfolding parse
parse-front m w t p c =
    subst (λ (w : List Bool). parse_after m 0 (w ++ t) ≡ prepend w (parse_after m 0 t)) (sym c.ends)
    (after-codeword m 0 c.body t p (ap (runs m) (sym c.ends) ∙ c.once))

pub parse-rest : (m : ℕ) (r : List Bool) → 1 ≤ m → runs m r ≡ 0 → parse m r ≡ parsed [] r
unfolding parse
parse-rest m r p h = after-rest m 0 r p h

-- That is all that the laws of any code ask
pub is_code : (m : ℕ) → 1 ≤ m → IsCode (Codeword m) (Rest m) (codeword m) (number m) (parse m)
unfolding runs
is_code m p =
    record {
      good = λ n. codeword-good m n p;
      back = λ w c. (codeword-number m w p c).0;
      front = λ w t. parse-front m w t p;
      left = λ r. parse-rest m r p;
      none = refl;
    }

-- Whatever is made of codewords and a rest is the parse
pub parse-only : (m : ℕ) (b : List Bool) (s : Parse Bool) → 1 ≤ m → IsParse m b s → s ≡ parse m b
parse-only m b s p = codes.parse-only (is_code m p) b s
