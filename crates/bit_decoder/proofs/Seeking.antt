-- What is known of pending bits, bit by bit, from where the last codeword ended.
use mathlib.Core.Path.{◌≡◌, refl, sym, ap, subst, ◌∙◌}
use mathlib.Core.Bool.{Bool, true, false}
use mathlib.Core.List.{List, [], ◌∷◌, ◌++◌, append_assoc, append-nil}
use mathlib.Core.Logic.{inl, inr}
use Prim.Native.Nat.{ℕ, ◌+◌, ◌≤◌, ◌<◌}
use native.Mathlib.Omega.{arith}
use native.Mathlib.Numerals.{add-one}
use lib.ListN.{length, get_or, drop, length-append, length-replicate}
use lib.Seq.{drop-cons}
use Rattle.fibonacci.specs.Code.{ones, runs, value, first, Codeword}
use Rattle.calls.specs.Limits.{max_number}
use Rattle.fibonacci.proofs.Runs.{runs-ones, runs-all, runs-reset, ones-on}
use Rattle.fibonacci.proofs.Numbers.{first-rises, value-append}
use Rattle.reading.proofs.Reached.{Settled, settled-runs}
use Rattle.bit_decoder.specs.Leaves.{Pending}

-- a zero makes the ones before it count
value-zero : (m : ℕ) (body : List Bool) (run : ℕ)
    → value m 1 (body ++ (ones run ++ (false ∷ []))) ≡ value m 1 body + value m (1 + length body) (ones run)
unfolding value
value-zero m body run = omega (arith, value-append m 1 body (ones run ++ (false ∷ [])), value-append m (1 + length body) (ones run) (false ∷ []))

-- From bit `from` up to bit k no codeword has ended before that bit
pub record Seeking (m : ℕ) (b : List Bool) (from k len val run : ℕ) : Type 0 where
  pub pending : Pending m b from k len val run
  pub settled : Settled pending.body
  pub free : runs m pending.body ≡ 0

pub seeking-start : (m : ℕ) (b : List Bool) (from : ℕ) → from ≤ length b → Seeking m b from from 0 0 0
unfolding value runs
seeking-start m b from h =
    record {
      pending =
          record {
            body = [];
            bits = refl;
            at = omega arith;
            within = h;
            long = refl;
            value_is = λ h. refl;
            small = omega arith;
          };
      settled = inl refl;
      free = refl;
    }

module _ {m : ℕ} {b : List Bool} {from k len val run : ℕ} (w : Seeking m b from k len val run) (pos : 1 ≤ m) where
  abbrev p : Pending m b from k len val run
  p = w.pending

  -- as many ones as the order
  pub seeking-ended : run ≡ m → (d : Pending m b from k len val m) × Codeword m (d.body ++ ones m)
  seeking-ended e =
      subst (λ (r : ℕ). (d : Pending m b from k len val r) × Codeword m (d.body ++ ones m)) e (
        p,
        record {
          once = omega (arith, settled-runs m p.body (ones m) pos w.settled, w.free, runs-all m pos);
          body = p.body;
          ends = refl;
        },
      )

  -- or no bit more
  pub seeking-left : run < m → k ≡ length b → (d : Pending m b from (length b) len val run) × (run < m) × (runs m (d.body ++ ones run) ≡ 0)
  seeking-left few e =
      subst (λ (n : ℕ). (d : Pending m b from n len val run) × (run < m) × (runs m (d.body ++ ones run) ≡ 0)) e
      (p, few, omega (arith, settled-runs m p.body (ones run) pos w.settled, w.free, runs-ones m run few))

  module _ (h : k < length b) (more : run < m) where
    next : (a : Bool) → get_or b k false ≡ a → drop k b ≡ a ∷ drop (k + 1) b
    next a e = drop-cons b k false h ∙ rw e (ap (λ (n : ℕ). a ∷ drop n b) (sym (add-one k)))

    pub seeking-zero : (x : ℕ) → get_or b k false ≡ false → (first m (len + run + 1) ≤ max_number → x ≡ value m (len + 1) (ones run)) → x ≤ max_number
        → Seeking m b from (k + 1) (len + (run + 1)) (val + x) 0
    unfolding runs
    seeking-zero x e is few =
        let q : List Bool = ones run ++ (false ∷ []) in
        record {
          pending =
              record {
                body = p.body ++ q;
                bits = p.bits ∙ ap (λ (d : List Bool). (p.body ++ ones run) ++ d) (next false e) ∙ simp (append_assoc, append-nil);
                at = omega (arith, p.at);
                within = omega arith;
                long = omega (arith, length-append p.body q, length-append (ones run) (false ∷ []), length-replicate run true, p.long);
                value_is = λ l.
                    let far : len + (run + 1) ≡ len + run + 1 = omega arith in
                    let near : first m len ≤ max_number = omega (arith, first-rises m {j = len} {k = len + (run + 1)} (omega arith)) in
                    let place : value m (1 + length p.body) (ones run) ≡ value m (len + 1) (ones run) =
                    ap (λ (j : ℕ). value m j (ones run)) (omega (arith, p.long)) in
                    omega (arith, value-zero m p.body run, p.value_is near, is (rw (← far) l));
                small = omega (arith, p.small);
              };
          settled = inr (p.body ++ ones run, sym (append_assoc p.body (ones run) (false ∷ [])));
          free = omega (arith, settled-runs m p.body q pos w.settled, w.free, runs-reset m run [] more);
        }

    pub seeking-one : get_or b k false ≡ true → Seeking m b from (k + 1) len val (run + 1)
    seeking-one e =
        record {
          pending =
              record {
                body = p.body;
                bits =
                    p.bits ∙ ap (λ (d : List Bool). (p.body ++ ones run) ++ d) (next true e) ∙ append_assoc p.body (ones run) (true ∷ drop (k + 1) b)
                    ∙ ap (λ (d : List Bool). p.body ++ d) (ones-on run (drop (k + 1) b) ∙ ap (λ (n : ℕ). ones n ++ drop (k + 1) b) (sym (add-one run)))
                    ∙ sym (append_assoc p.body (ones (run + 1)) (drop (k + 1) b));
                at = omega (arith, p.at);
                within = omega arith;
                long = p.long;
                value_is = p.value_is;
                small = omega (arith, p.small);
              };
          settled = w.settled;
          free = w.free;
        }
