-- The codewords that end in a byte: whether there is one, their numbers, and where these are stored.
use mathlib.Core.Path.{◌≡◌, refl, sym, ap, ◌∙◌}
use mathlib.Core.Bool.{Bool}
use mathlib.Core.List.{List, [], ◌∷◌, ◌++◌}
use Prim.Native.Nat.{ℕ, suc, ◌+◌, ◌≤◌}
use native.Mathlib.Omega.{arith}
use lib.ListN.{length, get_or, take, drop, length-append, length-take}
use lib.Seq.{sets, sets-eq, take-append-le, take-append-add}
use Rattle.codes.specs.Parse.{Parse, parsed, codewords, rest}

-- ## Parses with and without a codeword

pub open-parse : (p : Parse Bool) → length (codewords p) ≡ 0 → p ≡ parsed [] (rest p)
open-parse (parsed [] r) e = refl
open-parse (parsed (w ∷ ws) r) e = absurd (omega arith)

pub shut-parse : (p : Parse Bool) → (length (codewords p) ≡ 0 → ⊥) → (w : List Bool) × (ws : List (List Bool)) × (p ≡ parsed (w ∷ ws) (rest p))
shut-parse (parsed [] r) e = absurd (e refl)
shut-parse (parsed (w ∷ ws) r) e = (w, ws, refl)

-- ## The numbers inside a byte

-- at most two numbers, by their elements
pub few-are : (ns : List ℕ) → length ns ≤ 2 → take (length ns) (get_or ns 0 0 ∷ get_or ns 1 0 ∷ []) ≡ ns
few-are [] h = refl
few-are (a ∷ []) h = refl
few-are (a ∷ b ∷ []) h = refl
few-are (a ∷ b ∷ c ∷ ns) h = absurd (omega arith)

pub first_three : {a b c a' b' c' : ℕ} → a ≡ a' → b ≡ b' → c ≡ c' → (n : ℕ) → take (suc n) (a ∷ b ∷ c ∷ []) ≡ a' ∷ take n (b' ∷ c' ∷ [])
first_three a b c n = rw (a, b, c) refl

-- the first of them after those of a list, where three are set
pub taken : (row new : List ℕ) (count n : ℕ) → count + length new ≤ length row → n ≤ length new → take (count + n) (sets row count new) ≡ take count row ++ take n new
taken row new count n h k =
    let long : length (take count row) ≡ count = length-take count row ∙ omega arith in
    ap (take (count + n)) (sets-eq new row count h)
    ∙ take-append-le (count + n) (take count row ++ new) (drop (count + length new) row) (omega (arith, length-append (take count row) new, long))
    ∙ ap (λ (c : ℕ). take (c + n) (take count row ++ new)) (sym long) ∙ take-append-add (take count row) new n
