-- A text in a buffer.
use mathlib.Core.Path.{◌≡◌, sym, refl, ap, subst, ◌∙◌}
use mathlib.Core.Bool.{Bool, true, false}
use mathlib.Core.List.{List, ◌++◌}
use Prim.Native.Nat.{ℕ, ◌+◌, ◌≤◌, ◌<◌}
use native.Mathlib.Omega.{arith}
use lib.Dec.{ltb}
use lib.ListN.{length, take, drop, length-append}
use lib.Seq.{sets, sets-eq, take_at}
use borrow.Author.Tests.{lt-ltb, le-ltb, ltb-true, ltb-false}
use Rattle.lists.proofs.Lists.{sets-append}
use Rattle.columns.specs.Columns.{ascii, column}
use Rattle.columns.proofs.Columns.{column-length}
use Rattle.calls.specs.declared.Refusal.{Refusal}
use Rattle.calls.specs.declared.Refusal.TheVariants.{NoRoom}
use Rattle.calls.specs.Calls.{Outcome, check}
use Rattle.calls.proofs.Checks.{check-passed, accepted-one, not-both}
use Rattle.listing_text.specs.Listing.{refusal_line, put, put_into, Puts}
use Rattle.std.specs.Prelude.{Ok, Err}

pub refusal-length : (number : ℕ) → length (refusal_line number) ≡ 8
unfolding refusal_line
refusal-length number = simp (length-append, column-length)

module _ (t before : List ℕ) (n : ℕ) (e : length t ≡ n) where
  pub puts_short : length before < n → Puts t before (Err NoRoom) before
  unfolding put put_into
  puts_short h = let q = lt-ltb (length before) (length t) (omega arith) in (rw q refl, rw q refl)

  pub puts_done : (after : List ℕ) → n ≤ length before → after ≡ sets before 0 t → Puts t before (Ok n) after
  unfolding put put_into
  puts_done after h s =
      let q = le-ltb (length before) (length t) (omega arith) in
      let z : 0 + length t ≡ length t = omega arith in
      (rw q (ap Ok (sym e)), rw q (s ∙ sets-eq t before 0 (omega arith) ∙ ap (λ (k : ℕ). t ++ drop k before) z))

-- the line of a refusal, put in its three parts
pub refusal_put : (out : List ℕ) (number : ℕ) → sets (sets (sets out 0 (ascii "NO")) 2 (column 5 number)) 7 (ascii "\n") ≡ sets out 0 (refusal_line number)
unfolding refusal_line
refusal_put out number = simp (sets-append, column-length) refl

-- the same text, said in another way
pub puts_same : (t t' before : List ℕ) (answer : Outcome ℕ) (after : List ℕ) → t ≡ t' → Puts t before answer after → Puts t' before answer after
puts_same t t' before answer after e p = subst (λ (x : List ℕ). Puts x before answer after) e p

-- where the buffer has room the text stands in it, and the answer is how long it is
pub puts_whole : (t before : List ℕ) (answer : Outcome ℕ) (after : List ℕ) → length t ≤ length before → Puts t before answer after
    → (answer ≡ Ok (length t)) × (take (length t) after ≡ t)
unfolding put put_into
puts_whole t before answer after h p =
    let q = le-ltb (length before) (length t) h in
    let whole : after ≡ t ++ drop (length t) before = rw q at p.1 in
    (p.0 ∙ rw q refl, ap (take (length t)) whole ∙ take_at t (drop (length t) before) (length t) refl)
