-- Every string of bytes is made of codewords and a rest in which none ends: its parse.
use mathlib.Core.Path.{◌≡◌, refl, sym, ap, ◌∙◌}
use mathlib.Core.List.{List, [], ◌∷◌, ◌++◌, append_assoc, flatten}
use Prim.Native.Nat.{ℕ, ◌+◌, ◌≤◌, ◌<◌}
use native.Mathlib.Omega.{arith}
use native.Mathlib.Decide.{dec_le}
use lib.ListN.{length, get_or}
use borrow.Author.Tests.{lt-ltb, le-ltb}
use Rattle.lists.specs.Lists.{All}
use Rattle.lists.proofs.Each.{all_map}
use Rattle.codes.specs.Parse.{Parse, parsed, push, prepend}
use Rattle.codes.proofs.Parse.{push-prepend}
use Rattle.dense.specs.Code.{Continuer, Codeword}
use Rattle.dense.specs.Encoding.{Rest, IsParse, parse}

-- ## The steps of the parse

parse-stop : (s a : ℕ) (b : List ℕ) → a < s → parse s (a ∷ b) ≡ prepend (a ∷ []) (parse s b)
unfolding parse
parse-stop s a b h = rw (lt-ltb a s h, parse)

parse-go : (s a : ℕ) (b : List ℕ) → s ≤ a → parse s (a ∷ b) ≡ push a (parse s b)
unfolding parse
parse-go s a b h = rw (le-ltb a s h, parse)

-- ## The parse is codewords and a rest

push-is : (s c a : ℕ) (b : List ℕ) (p : Parse ℕ) → Continuer s c a → IsParse s c b p → IsParse s c (a ∷ b) (push a p)
unfolding flatten
push-is s c a b (parsed [] r) h i = record { joined = ap (λ (l : List ℕ). a ∷ l) i.joined; coded = tt; free = (h.0, i.free) }
push-is s c a b (parsed (w ∷ ws) r) h i =
    let k = i.coded.0 in
    record {
      joined = ap (λ (l : List ℕ). a ∷ l) i.joined;
      coded = (record { stem = a ∷ k.stem; last = k.last; ends = ap (λ (l : List ℕ). a ∷ l) k.ends; leading = (h, k.leading); stops = k.stops }, i.coded.1);
      free = i.free;
    }

stop_is : (s c a : ℕ) (b : List ℕ) (p : Parse ℕ) → a < s → IsParse s c b p → IsParse s c (a ∷ b) (prepend (a ∷ []) p)
unfolding flatten
stop_is s c a b (parsed ws r) h i =
    record {
      joined = ap (λ (l : List ℕ). a ∷ l) i.joined;
      coded = (record { stem = []; last = a; ends = refl; leading = tt; stops = h }, i.coded);
      free = i.free;
    }

pub parse-is : (s c : ℕ) (b : List ℕ) → All (λ x. x < s + c) b → IsParse s c b (parse s b)
unfolding parse flatten
parse-is s c [] a = record { joined = refl; coded = tt; free = tt }
parse-is s c (x ∷ b) a =
    elim (dec_le s x) [
      | yes h ↦ rw (parse-go s x b h) (push-is s c x b (parse s b) (h, a.0) (parse-is s c b a.1))
      | no h ↦ let l : x < s = omega arith in rw (parse-stop s x b l) (stop_is s c x b (parse s b) l (parse-is s c b a.1))
    ]

-- ## Codewords and rests in front

-- continuers and a stopper
pub parse-stem : (s : ℕ) (u : List ℕ) (z : ℕ) (t : List ℕ) → Rest s u → z < s → parse s (u ++ (z ∷ t)) ≡ prepend (u ++ (z ∷ [])) (parse s t)
parse-stem s [] z t a h = parse-stop s z t h
parse-stem s (x ∷ u) z t a h =
    parse-go s x (u ++ (z ∷ t)) a.0 ∙ ap (push x) (parse-stem s u z t a.1 h) ∙ push-prepend x (u ++ (z ∷ [])) (parse s t)

pub parse-codeword : (s c : ℕ) (w t : List ℕ) → Codeword s c w → parse s (w ++ t) ≡ prepend w (parse s t)
parse-codeword s c w t k =
    ap (λ (l : List ℕ). parse s (l ++ t)) k.ends
    ∙ ap (parse s) (append_assoc k.stem (k.last ∷ []) t)
    ∙ parse-stem s k.stem k.last t (all_map (Continuer s c) (λ x. s ≤ x) (λ x l. l.0) k.stem k.leading) k.stops
    ∙ ap (λ (l : List ℕ). prepend l (parse s t)) (sym k.ends)

pub parse-rest : (s : ℕ) (r : List ℕ) → Rest s r → parse s r ≡ parsed [] r
unfolding parse
parse-rest s [] a = refl
parse-rest s (x ∷ r) a = parse-go s x r a.0 ∙ ap (push x) (parse-rest s r a.1)

-- bytes of which the last is a stopper, and continuers after them: one codeword or more, and a rest
pub parse-finished : (s x : ℕ) (b r : List ℕ) → get_or (x ∷ b) (length b) 0 < s → Rest s r
    → (w : List ℕ) × (ws : List (List ℕ)) × (parse s (x ∷ b) ≡ parsed (w ∷ ws) []) × (parse s ((x ∷ b) ++ r) ≡ parsed (w ∷ ws) r)
unfolding parse
parse-finished s x [] r h a = (x ∷ [], [], parse-stop s x [] h, parse-stop s x r h ∙ ap (prepend (x ∷ [])) (parse-rest s r a))
parse-finished s x (z ∷ b) r h a =
    let (w, ws, alone, before) = parse-finished s z b r h a in
    elim (dec_le s x) [
      | yes g ↦ (x ∷ w, ws, parse-go s x (z ∷ b) g ∙ ap (push x) alone, parse-go s x (z ∷ (b ++ r)) g ∙ ap (push x) before)
      | no g ↦
          let l : x < s = omega arith in
          (x ∷ [], w ∷ ws, parse-stop s x (z ∷ b) l ∙ ap (prepend (x ∷ [])) alone, parse-stop s x (z ∷ (b ++ r)) l ∙ ap (prepend (x ∷ [])) before)
    ]
