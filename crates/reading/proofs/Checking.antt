-- When the checks of reading refuse, by the numbers of the codewords that have ended and by what is pending. Any reader uses them.
use mathlib.Core.Path.{◌≡◌, refl, sym, ap, ◌∙◌}
use mathlib.Core.Bool.{Bool, true, false, ◌&&◌, true≢false, or-true}
use mathlib.Core.List.{List, [], ◌∷◌, ◌++◌, map}
use mathlib.Core.Logic.{◌⊎◌, inl, inr}
use Prim.Native.Nat.{ℕ, zero, suc, ◌+◌, ◌-◌, ◌≤◌, ◌<◌}
use native.Mathlib.Omega.{arith}
use native.Mathlib.Decide.{dec_le}
use lib.Dec.{leb, ltb, eqb}
use lib.ListN.{length, length-append, length-replicate}
use borrow.Author.Tests.{le-leb, lt-leb, lt-ltb, eq-eqb, ltb-true, eqb-true}
use Rattle.bits.specs.Bits.{unpack, count}
use Rattle.bits.proofs.Count.{count-append}
use Rattle.codes.specs.Rows.{Positive}
use Rattle.codes.specs.Parse.{Parse, parsed, codewords, rest}
use Rattle.codes.proofs.Codes.{all-positive}
use Rattle.fibonacci.specs.Code.{ones, value, first, number}
use Rattle.fibonacci.specs.Encoding.{parse, numbers}
use Rattle.calls.specs.declared.Refusal.TheVariants.{BadRest}
use Rattle.calls.specs.Calls.{check}
use Rattle.calls.specs.Limits.{is_number, Legal, max_number, max_count}
use Rattle.calls.specs.Reading.{contents}
use Rattle.calls.proofs.Checks.{both, number_is}
use Rattle.calls.proofs.Finished.{illegal-above}
use Rattle.calls.proofs.Decoding.{contents-end}
use Rattle.fibonacci.proofs.Numeration.{F-pos}
use Rattle.fibonacci.proofs.Numbers.{first_pos}
use Rattle.reading.specs.Reading.{is_bad_rest, fibonacci}
use Rattle.reading.specs.Leaves.{NumberOf, is_padding}
use Rattle.std.specs.Prelude.{Ok, Err}

-- ## Pending bits at the end

-- pending bits are all zeros exactly where they and the ones after them are worth nothing
value_none : (m j : ℕ) (b : List Bool) → value m j b ≡ 0 → 1 ≤ m → count true b ≡ 0
unfolding value count
value_none m j [] e p = refl
value_none m j (false ∷ b) e p = omega (arith, value_none m (suc j) b e p)
value_none m j (true ∷ b) e p = absurd (omega (arith, F-pos m j p))

none-value : (m j : ℕ) (b : List Bool) → count true b ≡ 0 → value m j b ≡ 0
unfolding value count
none-value m j [] e = refl
none-value m j (false ∷ b) e = none-value m (suc j) b (omega arith)
none-value m j (true ∷ b) e = absurd (omega arith)

count_ones : (k : ℕ) → count true (ones k) ≡ k
unfolding count
count_ones zero = refl
count_ones (suc k) = omega (arith, count_ones k)

-- Of the pending bits before those ones, `body`, only a length below 8 and the value then need be known
module _ (m : ℕ) (body : List Bool) (len val run : ℕ) (pos : 1 ≤ m) (short : len < 8 → (length body ≡ len) × (val ≡ value m 1 body)) (far : 8 ≤ len → 8 ≤ length body) where
  abbrev pending : List Bool
  pending = body ++ ones run

  pending-long : length pending ≡ length body + run
  pending-long = omega (arith, length-append body (ones run), length-replicate run true)

  pending-ones : count true pending ≡ count true body + run
  pending-ones = omega (arith, count-append true body (ones run), count_ones run)

  pub padding-is : is_padding len val run ≡ true → (length pending < 8) × (count true pending ≡ 0) × (run ≡ 0)
  padding-is e =
      let p = both (ltb len 8) (eqb val 0 && eqb run 0) e in
      let q = both (eqb val 0) (eqb run 0) p.1 in
      let s = short (ltb-true len 8 p.0) in
      let r : run ≡ 0 = eqb-true run 0 q.1 in
      let v : value m 1 body ≡ 0 = omega (arith, eqb-true val 0 q.0, s.1) in
      (omega (arith, pending-long, s.0, ltb-true len 8 p.0), omega (arith, pending-ones, value_none m 1 body v pos), r)

  pub padding-not : is_padding len val run ≡ false → (8 ≤ length pending) ⊎ (1 ≤ count true pending)
  padding-not e =
      elim (dec_le 8 len) [
        | yes l ↦ inl (omega (arith, pending-long, far l))
        | no l ↦
            elim (dec_le 1 (count true pending)) [
              | yes c ↦ inr c
              | no c ↦
                  let v : val ≡ 0 = omega (arith, (short (omega arith)).1, none-value m 1 body (omega (arith, pending-ones))) in
                  let r : run ≡ 0 = omega (arith, pending-ones) in
                  absurd (true≢false (sym (simp (lt-ltb len 8 (omega arith), eq-eqb val 0 v, eq-eqb run 0 r)) ∙ e))
            ]
      ]

-- ## What the contents of an encoding are refused for

-- the rest
rest-bad : (r : List Bool) → (8 ≤ length r) ⊎ (1 ≤ count true r) → is_bad_rest r ≡ true
rest-bad r (inl l) = simp (le-leb 8 (length r) l)
rest-bad r (inr c) = rw (le-leb 1 (count true r) c) (or-true (leb 8 (length r)))

pub rest-good : (r : List Bool) → length r < 8 → count true r ≡ 0 → is_bad_rest r ≡ false
rest-good r l c = simp (lt-leb 8 (length r) l, lt-leb 1 (count true r) (omega arith))

-- The numbers `done` have passed their checks, no codeword is left, and the rest decides
module _ (limit m : ℕ) (s done : List ℕ) (legal : Legal limit done) (words : List (List Bool)) (r : List Bool) (e : parse m (unpack s) ≡ parsed words r)
    (w : map (number m) words ≡ done) (l : length done ≤ max_count) where
  ended : contents (fibonacci m) limit s ≡ check BadRest (is_bad_rest r) (Ok done)
  unfolding numbers
  ended =
      contents-end (fibonacci m) limit s done legal (ap (λ (p : Parse Bool). map (number m) (codewords p)) e ∙ w) l
      ∙ ap (λ (p : Parse Bool). check BadRest (is_bad_rest (rest p)) (Ok done)) e

  pub contents-rest : (8 ≤ length r) ⊎ (1 ≤ count true r) → contents (fibonacci m) limit s ≡ Err BadRest
  contents-rest c = ended ∙ ap (λ (t : Bool). check BadRest t (Ok done)) (rest-bad r c)

  pub contents-good : length r < 8 → count true r ≡ 0 → contents (fibonacci m) limit s ≡ Ok done
  contents-good h z = ended ∙ ap (λ (t : Bool). check BadRest t (Ok done)) (rest-good r h z)

-- ## Numbers of codewords

-- they are from 1 up
pub number-positive : (m : ℕ) (w : List Bool) → 1 ≤ number m w
unfolding number
number-positive m w = omega (arith, first_pos m (length w - m))

pub coded-positive : (m : ℕ) (ws : List (List Bool)) → Positive (map (number m) ws)
coded-positive m = all-positive (number m) (number-positive m)

pub numbers-positive : (m : ℕ) (b : List Bool) → Positive (numbers m b)
unfolding numbers
numbers-positive m b = coded-positive m (codewords (parse m b))

-- ## A number by its length and its value

-- n was found for the codeword's own number x: it passes the check only where it is x, and fails only where x is above the limit
module _ (m len val n : ℕ) (is : NumberOf m len val n) (x : ℕ) (near : first m len ≤ max_number → x ≡ first m len + val) (far : max_number < first m len → max_number < x)
    (limit : ℕ) (top : limit ≤ max_number) where
  pub numbered-legal : is_number limit n ≡ true → n ≡ x
  numbered-legal l =
      let pos = (number_is limit n l).0 in
      elim (dec_le (first m len) max_number) [
        | yes g ↦ omega (arith, is.0 g, near g)
        | no g ↦ absurd (omega (arith, is.1 (omega arith)))
      ]

  pub numbered-large : is_number limit n ≡ false → limit < x
  numbered-large l =
      elim (dec_le (first m len) max_number) [
        | yes g ↦ omega (arith, is.0 g, near g, illegal-above limit n (omega (arith, is.0 g, first_pos m len)) l)
        | no g ↦ omega (arith, far (omega arith))
      ]
