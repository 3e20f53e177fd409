-- The numbers that end in a byte, by whether they pass their checks; and what the contents are refused for.
use mathlib.Core.Path.{◌≡◌, refl, sym, ap, ◌∙◌}
use mathlib.Core.Bool.{Bool, true, not}
use mathlib.Core.List.{List, [], ◌∷◌, ◌++◌, append_assoc}
use Prim.Native.Nat.{ℕ, suc, ◌≤◌, ◌<◌}
use native.Mathlib.Numerals.{add-one, add-two}
use native.Mathlib.Omega.{arith}
use native.Mathlib.Decide.{dec_le}
use lib.Dec.{ltb}
use lib.ListN.{length, get_or, length-append}
use borrow.Author.Tests.{le-leb, lt-leb, lt-ltb, le-ltb, ltb-false, not-false}
use Rattle.lists.proofs.Each.{all_append}
use Rattle.bits.specs.Bits.{unpack}
use Rattle.calls.specs.declared.Refusal.{Refusal}
use Rattle.calls.specs.Calls.{Outcome, check}
use Rattle.calls.specs.Limits.{is_number, Legal, max_count}
use Rattle.calls.specs.Reading.{contents}
use Rattle.calls.proofs.Checks.{is-number, number_is, above-number, not-both, refused-one, check-passed}
use Rattle.codes.specs.Rows.{Positive}
use Rattle.fibonacci.specs.Encoding.{numbers}
use Rattle.reading.specs.Reading.{fibonacci}
use Rattle.calls.proofs.Decoding.{contents-many, contents-large, contents-past}
use Rattle.table_scan.specs.Leaves.{judged, fault_at}
use Rattle.std.specs.Prelude.{Ok, Err}

-- ## What the contents are refused for

-- the numbers `done` have passed, and y does not
refused-at : (limit : ℕ) (s done : List ℕ) (y : ℕ) (more : List ℕ) → Legal limit done → numbers 3 (unpack s) ≡ done ++ (y ∷ more) → limit < y
    → contents (fibonacci 3) limit s ≡ Err (fault_at (length done))
refused-at limit s done y more a e bad =
    elim (dec_le max_count (length done)) [
      | no h ↦ rw (lt-leb max_count (length done) (omega arith), fault_at) (contents-large (fibonacci 3) limit s done a y more e (omega arith) bad)
      | yes h ↦
          rw (le-leb max_count (length done) h, fault_at) (elim (dec_le (length done) max_count) [
            | yes l ↦ contents-many (fibonacci 3) limit s done a y more e (omega arith)
            | no l ↦ contents-past (fibonacci 3) limit s done a (y ∷ more) e (omega arith)
          ])
    ]

-- ## The numbers that a byte ends

pub judged-same : {place place' : ℕ} {legal legal' : Bool} {second second' third third' : ℕ} (limit : ℕ) → place ≡ place' → legal ≡ legal' → second ≡ second' → third ≡ third'
    → judged place legal second third limit ≡ judged place' legal' second' third' limit
judged-same limit p l a b = rw (p, l, a, b) refl

-- what is passed is legal
pub judged_legal : (place first second third limit : ℕ) (x : Unit {0}) → Ok x ≡ judged place (is_number limit first) second third limit → first ≤ limit
judged_legal place first second third limit x e =
    let p = check-passed (fault_at place) (not (is_number limit first)) _ x (sym e) in (number_is limit first (not-false _ p.0)).1

module _ (limit : ℕ) where
  -- the checks of numbers from a place on
  check_row : ℕ → List ℕ → Outcome (Unit {0})
  check_row place [] = Ok tt
  check_row place (n ∷ ns) = check (fault_at place) (ltb limit n) (check_row (suc place) ns)

  -- those of a byte are these, where at most two more end in it
  outside : (x : ℕ) → 1 ≤ x → not (is_number limit x) ≡ ltb limit x
  outside x h =
      elim (dec_le x limit) [
        | yes l ↦ simp (is-number limit x h l, le-ltb limit x l)
        | no l ↦ let l' : limit < x = omega arith in simp (above-number limit x h l', lt-ltb limit x l')
      ]

  judged_row : (place x : ℕ) (ns : List ℕ) → 1 ≤ x → length ns ≤ 2 → judged place (is_number limit x) (get_or ns 0 0) (get_or ns 1 0) limit ≡ check_row place (x ∷ ns)
  unfolding check_row
  judged_row place x [] p h = simp (outside x p, le-ltb limit 0 (omega arith))
  judged_row place x (a ∷ []) p h = simp (outside x p, le-ltb limit 0 (omega arith), add-one)
  judged_row place x (a ∷ b ∷ []) p h = simp (outside x p, add-one, add-two)
  judged_row place x (a ∷ b ∷ c ∷ ns) p h = absurd (omega arith)

  -- all of them pass
  row-passed : (place : ℕ) (ns : List ℕ) → Positive ns → check_row place ns ≡ Ok tt → Legal limit ns
  unfolding check_row
  row-passed place [] a e = tt
  row-passed place (n ∷ ns) a e =
      let p = check-passed (fault_at place) (ltb limit n) _ tt e in
      (is-number limit n a.0 (ltb-false limit n p.0), row-passed (suc place) ns a.1 p.1)

  -- or the first at fault decides, after the numbers `done`, which have passed
  row-fault : (s done ns later : List ℕ) → Legal limit done → Positive ns → numbers 3 (unpack s) ≡ (done ++ ns) ++ later → (q : Refusal)
      → check_row (length done) ns ≡ Err q → contents (fibonacci 3) limit s ≡ Err q
  unfolding check_row
  row-fault s done [] later l a e q f = absurd (not-both (sym f))
  row-fault s done (n ∷ ns) later l a e q f =
      elim (dec_le n limit) [
        | no h ↦
            let large : limit < n = omega arith in
            let is : fault_at (length done) ≡ q = refused-one (rw (lt-ltb limit n large) at f) in
            rw (← is) (refused-at limit s done n (ns ++ later) l (e ∙ append_assoc done (n ∷ ns) later) (omega arith))
        | yes h ↦
            let more : Legal limit (done ++ (n ∷ [])) = all_append (λ n. is_number limit n ≡ true) done (n ∷ []) l (is-number limit n a.0 h, tt) in
            let long : length (done ++ (n ∷ [])) ≡ suc (length done) = omega (arith, length-append done (n ∷ [])) in
            row-fault s (done ++ (n ∷ [])) ns later more a.1 (e ∙ ap (λ (l : List ℕ). l ++ later) (sym (append_assoc done (n ∷ []) ns))) q
            (ap (λ (k : ℕ). check_row k ns) long ∙ rw (le-ltb limit n h) at f)
      ]

  pub judged-passed : (x : ℕ) → 1 ≤ x → (ns : List ℕ) → length ns ≤ 2 → Positive ns → (place : ℕ)
      → judged place (is_number limit x) (get_or ns 0 0) (get_or ns 1 0) limit ≡ Ok tt → Legal limit (x ∷ ns)
  judged-passed x p ns h a place e = row-passed place (x ∷ ns) (p, a) (sym (judged_row place x ns p h) ∙ e)

  pub judged-fault : (s done : List ℕ) → Legal limit done → (x : ℕ) → 1 ≤ x → (ns : List ℕ) → length ns ≤ 2 → Positive ns
      → (later : List ℕ) → numbers 3 (unpack s) ≡ (done ++ (x ∷ ns)) ++ later → (q : Refusal)
      → judged (length done) (is_number limit x) (get_or ns 0 0) (get_or ns 1 0) limit ≡ Err q → contents (fibonacci 3) limit s ≡ Err q
  judged-fault s done l x p ns h a later e q f = row-fault s done (x ∷ ns) later l (p, a) e q (sym (judged_row (length done) x ns p h) ∙ f)
