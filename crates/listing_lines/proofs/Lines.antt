-- The lines of a listing: how long they are, and how they are put into a buffer.
use mathlib.Core.Path.{◌≡◌, refl, ap, ◌∙◌}
use mathlib.Core.List.{List, [], ◌∷◌, ◌++◌, append_assoc}
use Prim.Native.Nat.{ℕ, suc, ◌+◌, ◌*◌, ◌≤◌, ◌<◌}
use native.Mathlib.Omega.{arith}
use native.Mathlib.Numerals.{add-one}
use native.Mathlib.Nat.{add_assoc}
use lib.ListN.{length, get_or, drop, length-append, drop_of_length-le}
use lib.Seq.{sets}
use Rattle.lists.proofs.Lists.{drop-next, sets-append, sets_then}
use Rattle.columns.specs.Columns.{ascii, column}
use Rattle.columns.proofs.Columns.{column-length}
use Rattle.fibonacci.specs.Code.{codeword}
use Rattle.calls.specs.Limits.{Legal, max_number}
use Rattle.calls.proofs.Checks.{number_is, legal-at}
use Rattle.listing_lines.specs.Lines.{header, row_line, row_lines, last_line, lines}

-- ## Lengths

pub line-length : (place n bits total : ℕ) → length (row_line place n bits total) ≡ 38
unfolding row_line
line-length place n bits total = simp (length-append, column-length)

pub rows-length : (m place total : ℕ) (row : List ℕ) → length (row_lines m place total row) ≡ 38 * length row
unfolding row_lines
rows-length m place total [] = refl
rows-length m place total (n ∷ row) = simp (length-append, line-length) (omega (arith, rows-length m (suc place) (total + n) row))

last-length : (bytes : ℕ) → length (last_line bytes) ≡ 17
unfolding last_line
last-length bytes = simp (length-append, column-length)

pub lines-length : (m : ℕ) (row : List ℕ) (bytes : ℕ) → length (lines m row bytes) ≡ 55 + 38 * length row
unfolding lines
lines-length m row bytes =
    omega (
      arith,
      length-append (header ++ row_lines m 0 0 row) (last_line bytes),
      length-append header (row_lines m 0 0 row),
      rows-length m 0 0 row,
      last-length bytes,
    )

-- ## One part after another

parts_put : (out a b c d e : List ℕ) (at i j k l : ℕ) → i ≡ at + length a → j ≡ i + length b → k ≡ j + length c → l ≡ k + length d
    → sets (sets (sets (sets (sets out at a) i b) j c) k d) l e ≡ sets out at (a ++ b ++ c ++ d ++ e)
parts_put out a b c d e at i j k l p q r s = rw (s, r, q, p) (simp (sets-append, length-append, add_assoc) refl)

pub line_put : (out : List ℕ) (at place n bits total : ℕ)
    → sets (sets (sets (sets (sets out at (column 5 place)) (at + 5) (column 11 n)) (at + 16) (column 5 bits)) (at + 21) (column 16 total)) (at + 37) (ascii "\n")
    ≡ sets out at (row_line place n bits total)
unfolding row_line
line_put out at place n bits total =
    parts_put out (column 5 place) (column 11 n) (column 5 bits) (column 16 total) (ascii "\n") at (at + 5) (at + 16) (at + 21) (at + 37)
    (simp column-length refl) (simp column-length (omega arith)) (simp column-length (omega arith)) (simp column-length (omega arith))

pub lines_put : (out : List ℕ) (m : ℕ) (row : List ℕ) (bytes : ℕ)
    → let end : ℕ = 38 + 38 * length row in
    sets (sets (sets (sets (sets out 0 header) 38 (row_lines m 0 0 row)) end (ascii "BYTES")) (end + 5) (column 11 bytes)) (end + 16) (ascii "\n")
    ≡ sets out 0 (lines m row bytes)
unfolding lines last_line
lines_put out m row bytes =
    let end : ℕ = 38 + 38 * length row in
    let rows : List ℕ = row_lines m 0 0 row in
    let joined : header ++ rows ++ ascii "BYTES" ++ column 11 bytes ++ ascii "\n" ≡ header ++ rows ++ (ascii "BYTES" ++ column 11 bytes ++ ascii "\n") = simp append_assoc in
    parts_put out header rows (ascii "BYTES") (column 11 bytes) (ascii "\n") 0 38 end (end + 5) (end + 16)
    refl (omega (arith, rows-length m 0 0 row)) refl (simp column-length (omega arith))
    ∙ ap (sets out 0) joined

-- ## The lines of a row

-- each number is one of a row
pub legal_positive : (row : List ℕ) (i : ℕ) → Legal max_number row → i < length row → 1 ≤ get_or row i 0
legal_positive row i a h = (number_is max_number (get_or row i 0) (legal-at max_number row i a h)).0

pub legal_small : (row : List ℕ) (i : ℕ) → Legal max_number row → i < length row → get_or row i 0 ≤ max_number
legal_small row i a h = (number_is max_number (get_or row i 0) (legal-at max_number row i a h)).1

-- after i numbers: their sum, which is not large; the lines of the others make the whole
abbrev pub Listed : ℕ → List ℕ → ℕ → ℕ → List ℕ → List ℕ → Type 0
Listed m row i total now old = (total ≤ max_number * i) × (sets now (38 + 38 * i) (row_lines m i total (drop i row)) ≡ sets old 38 (row_lines m 0 0 row))

pub listed-none : (m : ℕ) (row old : List ℕ) → Listed m row 0 0 old old
listed-none m row old = (omega arith, refl)

module _ (m : ℕ) (row : List ℕ) (i total : ℕ) (now old : List ℕ) (p : Listed m row i total now old) where
  pub listed_more : (n bits : ℕ) (new : List ℕ) → i < length row → n ≡ get_or row i 0 → n ≤ max_number → bits ≡ length (codeword m n)
      → new ≡ sets now (38 + 38 * i) (row_line i n bits (total + n)) → Listed m row (i + 1) (total + n) new old
  unfolding row_lines
  listed_more n bits new h e b q s =
      let left : drop i row ≡ n ∷ drop (i + 1) row = drop-next row i 0 h e in
      let next : 38 + 38 * (i + 1) ≡ 38 + 38 * i + length (row_line i n bits (total + n)) = omega (arith, line-length i n bits (total + n)) in
      let rest : List ℕ = row_lines m (suc i) (total + n) (drop (i + 1) row) in
      let more : sets new (38 + 38 * (i + 1)) rest ≡ sets now (38 + 38 * i) (row_line i n bits (total + n) ++ rest) =
      sets_then now (38 + 38 * i) (38 + 38 * (i + 1)) (row_line i n bits (total + n)) rest s refl next in
      let whole : sets now (38 + 38 * i) (row_line i n bits (total + n) ++ rest) ≡ sets old 38 (row_lines m 0 0 row) = rw q (rw left at p.1) in
      (omega (arith, p.0), ap (λ (k : ℕ). sets new (38 + 38 * (i + 1)) (row_lines m k (total + n) (drop (i + 1) row))) (add-one i) ∙ more ∙ whole)

  pub listed-end : length row ≤ i → now ≡ sets old 38 (row_lines m 0 0 row)
  unfolding row_lines
  listed-end h = rw (drop_of_length-le row {i = i} h) at p.1
