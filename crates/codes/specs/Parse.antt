-- The parse of a string (demand 3: its split), for any code and any symbols.
use Rattle.std.specs.Prelude.{◌≡◌}
use mathlib.Core.List.{List, [], ◌∷◌, ◌++◌, flatten}
use Rattle.lists.specs.Lists.{All}

-- Codewords, and the rest after them
pub data Parse (A : Type 0) : Type 0 where
  parsed : List (List A) → List A → Parse A

abbrev pub codewords : {A : Type 0} → Parse A → List (List A)
codewords (parsed ws r) = ws

abbrev pub rest : {A : Type 0} → Parse A → List A
rest (parsed ws r) = r

-- b is made of codewords, none or more, followed by a rest; what a codeword is, and what a rest, the code says
pub record IsParse {A : Type 0} (Codeword Rest : List A → Type 0) (b : List A) (p : Parse A) : Type 0 where
  pub joined : flatten (codewords p) ++ rest p ≡ b
  pub coded : All Codeword (codewords p)
  pub free : Rest (rest p)

-- A symbol more in front of the first codeword, or of the rest where there is none
abbrev pub push : {A : Type 0} → A → Parse A → Parse A
push a (parsed [] r) = parsed [] (a ∷ r)
push a (parsed (w ∷ ws) r) = parsed ((a ∷ w) ∷ ws) r

-- A codeword more in front
abbrev pub prepend : {A : Type 0} → List A → Parse A → Parse A
prepend w (parsed ws r) = parsed (w ∷ ws) r
