-- Symbols and codewords in front of a parse, for any code and any symbols.
use mathlib.Core.Path.{◌≡◌, refl, ap, ◌∙◌}
use mathlib.Core.List.{List, [], ◌∷◌, ◌++◌, append_assoc, flatten}
use Rattle.codes.specs.Parse.{Parse, parsed, codewords, rest, push, prepend}

module _ {A : Type 0} where
  -- ## What is put back together

  pub push-joined : (a : A) (s : Parse A) → flatten (codewords (push a s)) ++ rest (push a s) ≡ a ∷ (flatten (codewords s) ++ rest s)
  unfolding flatten
  push-joined a (parsed [] r) = refl
  push-joined a (parsed (w ∷ ws) r) = refl

  pub prepend-joined : (w : List A) (s : Parse A) → flatten (codewords (prepend w s)) ++ rest (prepend w s) ≡ w ++ (flatten (codewords s) ++ rest s)
  unfolding flatten
  prepend-joined w (parsed ws r) = append_assoc w (flatten ws) r

  -- ## Codewords and rest of it

  pub prepend-codewords : (w : List A) (s : Parse A) → codewords (prepend w s) ≡ w ∷ codewords s
  prepend-codewords w (parsed ws r) = refl

  pub prepend-rest : (w : List A) (s : Parse A) → rest (prepend w s) ≡ rest s
  prepend-rest w (parsed ws r) = refl

  -- ## Symbols in front

  pub push-prepend : (a : A) (w : List A) (s : Parse A) → push a (prepend w s) ≡ prepend (a ∷ w) s
  push-prepend a w (parsed ws r) = refl

  -- in front of the first codeword, or of the rest where there is none
  abbrev pub behind : List A → Parse A → Parse A
  behind [] s = s
  behind (a ∷ x) s = push a (behind x s)

  pub behind-prepend : (x w : List A) (s : Parse A) → behind x (prepend w s) ≡ prepend (x ++ w) s
  behind-prepend [] w s = refl
  behind-prepend (a ∷ x) w s = ap (push a) (behind-prepend x w s) ∙ push-prepend a (x ++ w) s

  pub behind-append : (x y : List A) (s : Parse A) → behind (x ++ y) s ≡ behind x (behind y s)
  behind-append [] y s = refl
  behind-append (a ∷ x) y s = ap (push a) (behind-append x y s)

  pub behind-rest : (x r : List A) → behind x (parsed [] r) ≡ parsed [] (x ++ r)
  behind-rest [] r = refl
  behind-rest (a ∷ x) r = ap (push a) (behind-rest x r)

  -- ## Codewords in front

  abbrev pub onto : List (List A) → Parse A → Parse A
  onto [] s = s
  onto (w ∷ ws) s = prepend w (onto ws s)

  pub onto-codewords : (ws : List (List A)) (s : Parse A) → codewords (onto ws s) ≡ ws ++ codewords s
  onto-codewords [] s = refl
  onto-codewords (w ∷ ws) s = prepend-codewords w (onto ws s) ∙ ap (λ (l : List (List A)). w ∷ l) (onto-codewords ws s)

  pub onto-parsed : (ws : List (List A)) (r : List A) → onto ws (parsed [] r) ≡ parsed ws r
  onto-parsed [] r = refl
  onto-parsed (w ∷ ws) r = ap (prepend w) (onto-parsed ws r)

  pub onto-append : (vs ws : List (List A)) (s : Parse A) → onto vs (onto ws s) ≡ onto (vs ++ ws) s
  onto-append [] ws s = refl
  onto-append (v ∷ vs) ws s = ap (prepend v) (onto-append vs ws s)
