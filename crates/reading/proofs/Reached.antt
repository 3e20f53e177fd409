-- How far a scan has come in the parse of a string of bits: which codewords have ended, what is pending, and what any more bits make of it. For any order m.
use mathlib.Core.Path.{◌≡◌, refl, sym, ap, ◌∙◌, subst}
use mathlib.Core.Bool.{Bool, false}
use mathlib.Core.List.{List, [], ◌∷◌, ◌++◌, append_assoc, append-nil, flatten, map, map-append}
use mathlib.Core.Logic.{◌⊎◌, inl, inr}
use Prim.Native.Nat.{ℕ, ◌+◌, ◌≤◌, ◌<◌}
use native.Mathlib.Omega.{arith}
use lib.ListN.{length, drop, drop_of_length-le}
use Rattle.codes.specs.Parse.{Parse, parsed, codewords}
use Rattle.codes.proofs.Parse.{behind, behind-prepend, behind-append, behind-rest, onto, onto-codewords, onto-parsed, onto-append}
use Rattle.codes.proofs.Codes as codes
use Rattle.fibonacci.specs.Code.{ones, runs, number}
use Rattle.fibonacci.specs.Encoding.{IsParse, parse, numbers}
use Rattle.fibonacci.proofs.Runs.{runs-ones, runs-cut}
use Rattle.fibonacci.proofs.Parse.{parse-is, parse-rest, is_code, parse-only}

-- ## What ones to come cannot join

-- Nothing, or bits that end in a zero
abbrev pub Settled : List Bool → Type 0
Settled q = (q ≡ []) ⊎ ((p : List Bool) × (q ≡ p ++ (false ∷ [])))

pub settled-runs : (m : ℕ) (q t : List Bool) → 1 ≤ m → Settled q → runs m (q ++ t) ≡ runs m q + runs m t
unfolding runs
settled-runs m q t h (inl e) = rw e (omega arith)
settled-runs m q t h (inr (p, e)) = rw e (omega (arith, ap (runs m) (append_assoc p (false ∷ []) t), runs-cut m p t h, runs-cut m p [] h))

-- such bits, without m ones in a row, only make the first codeword longer
settled_is : (m : ℕ) (q b : List Bool) (s : Parse Bool) → 1 ≤ m → Settled q → runs m q ≡ 0 → IsParse m b s → IsParse m (q ++ b) (behind q s)
unfolding flatten
settled_is m q b (parsed [] r) h z f i =
    rw (behind-rest q r) (record { joined = ap (λ (t : List Bool). q ++ t) i.joined; coded = tt; free = omega (arith, settled-runs m q r h z, i.free) })
settled_is m q b (parsed (w ∷ ws) r) h z f i =
    let c = i.coded.0 in
    rw (behind-prepend q w (parsed ws r)) (record {
      joined =
          ap (λ (t : List Bool). t ++ r) (append_assoc q w (flatten ws)) ∙ append_assoc q (w ++ flatten ws) r ∙ ap (λ (t : List Bool). q ++ t) i.joined;
      coded = (
        record {
          once = omega (arith, settled-runs m q w h z, c.once);
          body = q ++ c.body;
          ends = ap (λ (t : List Bool). q ++ t) c.ends ∙ sym (append_assoc q c.body (ones m));
        },
        i.coded.1,
      );
      free = i.free;
    })

parse-settled : (m : ℕ) (q t : List Bool) → 1 ≤ m → Settled q → runs m q ≡ 0 → parse m (q ++ t) ≡ behind q (parse m t)
parse-settled m q t h z f = sym (parse-only m (q ++ t) (behind q (parse m t)) h (settled_is m q t (parse m t) h z f (parse-is m t h)))

-- the parse of bits with more after them goes on from its rest
parse-more : (m : ℕ) (b t : List Bool) (ws : List (List Bool)) (r : List Bool) → 1 ≤ m → parse m b ≡ parsed ws r → parse m (b ++ t) ≡ onto ws (parse m (r ++ t))
parse-more m b t ws r h e = codes.parse-more (is_code m h) b t ws r (subst (IsParse m b) e (parse-is m b h))

-- ## How far a scan has come

-- The codewords `words` have ended within the first k bits of b; pending are the bits `body` and then `run` ones
pub record Reached (m : ℕ) (b : List Bool) (k : ℕ) (words : List (List Bool)) (body : List Bool) (run : ℕ) : Type 0 where
  pub left : parse m b ≡ onto words (behind body (parse m (ones run ++ drop k b)))
  pub few : run < m

pub reached-start : (m : ℕ) (b : List Bool) → 1 ≤ m → Reached m b 0 [] [] 0
reached-start m b p = record { left = refl; few = p }

pub reached-end : (m : ℕ) (b : List Bool) (k : ℕ) (words : List (List Bool)) (body : List Bool) (run : ℕ) → length b ≤ k → Reached m b k words body run
    → parse m b ≡ parsed words (body ++ ones run)
reached-end m b k words body run h r =
    r.left
    ∙ ap (λ (t : List Bool). onto words (behind body (parse m t)))
    (ap (λ (t : List Bool). ones run ++ t) (drop_of_length-le b h) ∙ append-nil (ones run))
    ∙ ap (λ (s : Parse Bool). onto words (behind body s)) (parse-rest m (ones run) (omega (arith, r.few)) (runs-ones m run r.few))
    ∙ ap (onto words) (behind-rest body (ones run)) ∙ onto-parsed words (body ++ ones run)

-- the numbers of the codewords that have ended come first
pub reached-numbers : {m : ℕ} {b : List Bool} {k : ℕ} {words : List (List Bool)} {body : List Bool} {run : ℕ} → Reached m b k words body run
    → (later : List ℕ) × (numbers m b ≡ map (number m) words ++ later)
unfolding numbers
reached-numbers {m} {b} {k} {words} {body} {run} r =
    let left : Parse Bool = behind body (parse m (ones run ++ drop k b)) in (
      map (number m) (codewords left),
      ap (λ (s : Parse Bool). map (number m) (codewords s)) r.left
          ∙ ap (map (number m)) (onto-codewords words left) ∙ map-append (number m) words (codewords left),
    )

-- The law that carries a scan over any bits x, up to bit n, by the parse of the pending ones and x alone: its rest is the bits q, which ones to come cannot
-- join, and then `run'` ones
module _ {m : ℕ} {b : List Bool} {k : ℕ} {words : List (List Bool)} {body : List Bool} {run : ℕ} (r : Reached m b k words body run)
    (x : List Bool) (n : ℕ) (next : drop k b ≡ x ++ drop n b) (q : List Bool) (run' : ℕ) (z : Settled q) (few' : run' < m) where
  carried : (ws : List (List Bool)) → parse m (ones run ++ x) ≡ parsed ws (q ++ ones run')
      → parse m b ≡ onto words (behind body (onto ws (behind q (parse m (ones run' ++ drop n b)))))
  carried ws e =
      let h : 1 ≤ m = omega arith in
      let free : runs m (q ++ ones run') ≡ 0 = (subst (IsParse m (ones run ++ x)) e (parse-is m (ones run ++ x) h)).free in
      r.left ∙ ap (λ (s : Parse Bool). onto words (behind body s))
      (ap (λ (t : List Bool). parse m (ones run ++ t)) next ∙ ap (parse m) (sym (append_assoc (ones run) x (drop n b)))
      ∙ parse-more m (ones run ++ x) (drop n b) ws (q ++ ones run') h e
      ∙ ap (λ (t : List Bool). onto ws (parse m t)) (append_assoc q (ones run') (drop n b))
      ∙ ap (onto ws) (parse-settled m q (ones run' ++ drop n b) h z (omega (arith, settled-runs m q (ones run') h z))))

  -- no codeword ends
  pub reached-open : parse m (ones run ++ x) ≡ parsed [] (q ++ ones run') → Reached m b n words (body ++ q) run'
  reached-open e =
      record { left = carried [] e ∙ ap (onto words) (sym (behind-append body q (parse m (ones run' ++ drop n b)))); few = few' }

  -- one ends, w with the bits that were pending, and perhaps more do
  pub reached-shut : (w : List Bool) (ws : List (List Bool)) → parse m (ones run ++ x) ≡ parsed (w ∷ ws) (q ++ ones run')
      → Reached m b n (words ++ ((body ++ w) ∷ ws)) q run'
  reached-shut w ws e =
      let later : Parse Bool = behind q (parse m (ones run' ++ drop n b)) in
      record {
        left = carried (w ∷ ws) e ∙ ap (onto words) (behind-prepend body w (onto ws later)) ∙ onto-append words ((body ++ w) ∷ ws) later;
        few = few';
      }
