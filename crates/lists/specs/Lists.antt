-- Lists of any elements: what definitions say of them and the library has not, or not in a form that computes. (Its `filter` goes by decisions, where a test here
-- is a Bool; its `sum` takes any addition and zero, where these are those of numbers.)
use Rattle.std.specs.Prelude.{Bool, true, false, ℕ, zero, suc, ◌+◌}
use mathlib.Core.List.{List, [], ◌∷◌, foldr}

-- What holds of each element of a list
abbrev pub All : {A : Type 0} → (A → Type 0) → List A → Type 0
All P [] = Unit {0}
All P (x ∷ xs) = P x × All P xs

-- The elements of a list that pass a test, in their order
unfoldable pub filter : {A : Type 0} → (A → Bool) → List A → List A
filter test [] = []
filter test (x ∷ xs) = elim (test x) [ true ↦ x ∷ filter test xs | false ↦ filter test xs ]

abbrev pub sum : List ℕ → ℕ
sum l = foldr ◌+◌ 0 l

-- f(j), f(j + 1), .. , n values
abbrev pub values_from : {A : Type 0} → (ℕ → A) → ℕ → ℕ → List A
values_from f j zero = []
values_from f j (suc n) = f j ∷ values_from f (suc j) n
