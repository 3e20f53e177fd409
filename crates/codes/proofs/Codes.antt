-- What holds of every code that shows five things of itself: the parse is the only one, what is written is read back, rows are told apart by their strings,
-- and one begins another when its string does.
use mathlib.Core.Path.{◌≡◌, refl, sym, ap, ap₂, ◌∙◌}
use mathlib.Core.List.{List, [], ◌∷◌, ◌++◌, append_assoc, append-nil, map, map-append, flatten, IsPrefix}
use mathlib.Core.Logic.{◌↔◌}
use Prim.Native.Nat.{ℕ, ◌≤◌}
use Rattle.lists.specs.Lists.{All}
use Rattle.lists.proofs.Lists.{flatten-map-append}
use Rattle.codes.specs.Rows.{Positive, row_string}
use Rattle.codes.specs.Parse.{Parse, parsed, codewords, rest, IsParse, prepend}
use Rattle.codes.proofs.Parse.{onto, onto-codewords, onto-parsed}

-- What a code shows of itself
pub record IsCode {A : Type 0} (Codeword Rest : List A → Type 0) (codeword : ℕ → List A) (number : List A → ℕ) (parse : List A → Parse A) : Type 0 where
  -- each number from 1 up has a codeword, which means it
  pub good : (n : ℕ) → 1 ≤ n → Codeword (codeword n) × (number (codeword n) ≡ n)
  -- each codeword is that of its number
  pub back : (w : List A) → Codeword w → codeword (number w) ≡ w
  -- a codeword with anything after it is cut off where it ends
  pub front : (w t : List A) → Codeword w → parse (w ++ t) ≡ prepend w (parse t)
  -- nothing is cut off a rest
  pub left : (r : List A) → Rest r → parse r ≡ parsed [] r
  -- the empty string is a rest
  pub none : Rest []

-- numbers from 1 up are those of any codewords
pub all-positive : {A : Type 0} (number : List A → ℕ) → ((w : List A) → 1 ≤ number w) → (ws : List (List A)) → Positive (map number ws)
all-positive number h [] = tt
all-positive number h (w ∷ ws) = (h w, all-positive number h ws)

-- ## The string of a row

module _ {A : Type 0} (codeword : ℕ → List A) where
  pub string-append : (a b : List ℕ) → row_string codeword (a ++ b) ≡ row_string codeword a ++ row_string codeword b
  string-append a b = flatten-map-append codeword a b

  -- a number more
  pub string-snoc : (row : List ℕ) (n : ℕ) → row_string codeword (row ++ (n ∷ [])) ≡ row_string codeword row ++ codeword n
  unfolding flatten
  string-snoc row n = string-append row (n ∷ []) ∙ ap (λ (b : List A). row_string codeword row ++ b) (append-nil (codeword n))

module _ {A : Type 0} {Codeword Rest : List A → Type 0} {codeword : ℕ → List A} {number : List A → ℕ} {parse : List A → Parse A}
    (c : IsCode Codeword Rest codeword number parse) where
  -- ## The parse

  -- codewords with anything after them
  pub parse-flatten : (ws : List (List A)) (t : List A) → All Codeword ws → parse (flatten ws ++ t) ≡ onto ws (parse t)
  unfolding flatten
  parse-flatten [] t a = refl
  parse-flatten (w ∷ ws) t a =
      ap parse (append_assoc w (flatten ws) t) ∙ c.front w (flatten ws ++ t) a.0 ∙ ap (prepend w) (parse-flatten ws t a.1)

  -- codewords and a rest
  pub parse-joined : (ws : List (List A)) (r : List A) → All Codeword ws → Rest r → parse (flatten ws ++ r) ≡ parsed ws r
  parse-joined ws r a f = parse-flatten ws r a ∙ ap (onto ws) (c.left r f) ∙ onto-parsed ws r

  -- Whatever is made of codewords and a rest is the parse
  pub parse-only : (b : List A) (s : Parse A) → IsParse Codeword Rest b s → s ≡ parse b
  parse-only b (parsed ws r) i = sym (ap parse (sym i.joined) ∙ parse-joined ws r i.coded i.free)

  -- the parse of a string with more after it goes on from its rest
  pub parse-more : (b t : List A) (ws : List (List A)) (r : List A) → IsParse Codeword Rest b (parsed ws r) → parse (b ++ t) ≡ onto ws (parse (r ++ t))
  parse-more b t ws r i =
      ap (λ (x : List A). parse (x ++ t)) (sym i.joined) ∙ ap parse (append_assoc (flatten ws) r t) ∙ parse-flatten ws (r ++ t) i.coded

  -- a string is that of its numbers, and the rest
  pub parse-string : (b : List A) (s : Parse A) → IsParse Codeword Rest b s → row_string codeword (map number (codewords s)) ++ rest s ≡ b
  parse-string b s i = ap (λ (ws : List (List A)). flatten ws ++ rest s) (same (codewords s) i.coded) ∙ i.joined
    where
      same : (ws : List (List A)) → All Codeword ws → map codeword (map number ws) ≡ ws
      same [] a = refl
      same (w ∷ ws) a = ap₂ (λ (x : List A) (l : List (List A)). x ∷ l) (c.back w a.0) (same ws a.1)

  -- ## The parse of a row's string

  pub row-coded : (row : List ℕ) → Positive row → All Codeword (map codeword row)
  row-coded [] h = tt
  row-coded (n ∷ row) h = ((c.good n h.0).0, row-coded row h.1)

  pub row-numbers : (row : List ℕ) → Positive row → map number (map codeword row) ≡ row
  row-numbers [] h = refl
  row-numbers (n ∷ row) h = ap₂ (λ (x : ℕ) (l : List ℕ). x ∷ l) (c.good n h.0).1 (row-numbers row h.1)

  -- with anything after it
  pub row-parse : (row : List ℕ) (t : List A) → Positive row → parse (row_string codeword row ++ t) ≡ onto (map codeword row) (parse t)
  row-parse row t h = parse-flatten (map codeword row) t (row-coded row h)

  pub row_before : (row : List ℕ) (t : List A) → Positive row
      → map number (codewords (parse (row_string codeword row ++ t))) ≡ row ++ map number (codewords (parse t))
  row_before row t h =
      ap (λ (s : Parse A). map number (codewords s)) (row-parse row t h)
      ∙ ap (map number) (onto-codewords (map codeword row) (parse t))
      ∙ map-append number (map codeword row) (codewords (parse t))
      ∙ ap (λ (l : List ℕ). l ++ map number (codewords (parse t))) (row-numbers row h)

  -- with a rest after it
  pub row-rest : (row : List ℕ) (r : List A) → Positive row → Rest r → parse (row_string codeword row ++ r) ≡ parsed (map codeword row) r
  row-rest row r h f = parse-joined (map codeword row) r (row-coded row h) f

  -- alone
  pub row-alone : (row : List ℕ) → Positive row → parse (row_string codeword row) ≡ parsed (map codeword row) []
  row-alone row h = ap parse (sym (append-nil (row_string codeword row))) ∙ row-rest row [] h c.none

  pub row_read : (row : List ℕ) → Positive row → map number (codewords (parse (row_string codeword row))) ≡ row
  row_read row h = ap (λ (s : Parse A). map number (codewords s)) (row-alone row h) ∙ row-numbers row h

  -- ## One row and another

  pub rows_apart : (a b : List ℕ) → Positive a → Positive b → row_string codeword a ≡ row_string codeword b → a ≡ b
  rows_apart a b ha hb e = sym (row_read a ha) ∙ ap (λ (x : List A). map number (codewords (parse x))) e ∙ row_read b hb

  pub rows_begin : (a b : List ℕ) → Positive a → Positive b → IsPrefix (row_string codeword a) (row_string codeword b) ↔ IsPrefix a b
  rows_begin a b ha hb = (
    λ (x : IsPrefix (row_string codeword a) (row_string codeword b)). (
      map number (codewords (parse x.0)),
      sym (row_before a x.0 ha) ∙ ap (λ (y : List A). map number (codewords (parse y))) x.1 ∙ row_read b hb,
    ),
    λ (x : IsPrefix a b). (row_string codeword x.0, sym (string-append codeword a x.0) ∙ ap (row_string codeword) x.1),
  )
