-- The input: what its form says, and how it is read line by line.
use mathlib.Core.Path.{◌≡◌, refl, sym, ap, ap₂, ◌∙◌}
use mathlib.Core.Bool.{Bool, true, false, ◌&&◌, and-false, and_assoc}
use mathlib.Core.List.{List, [], ◌∷◌, ◌++◌, append_assoc, append-nil, map, flatten}
use Prim.Native.Nat.{ℕ, zero, suc, ◌+◌, ◌*◌, ◌/◌, ◌%◌, ◌^◌, ◌≤◌, ◌<◌}
use native.Mathlib.Omega.{arith}
use native.Mathlib.Numerals.{add-one}
use lib.Dec.{eqb, ltb}
use lib.ListN.{length, take, drop, set, replicate, length-append, length-map, drop_of_length-le}
use lib.Seq.{take_at, drop_at, take-suc-set, take-append-le, sets, sets-eq}
use borrow.Author.Tests.{lt-ltb, ltb-true}
use Rattle.std.specs.Prelude.{Ok, Err}
use Rattle.std.specs.Str.{bytes_eq}
use Rattle.std.proofs.lemmas.Bool.{false_from_ne_true}
use Rattle.std.proofs.lemmas.Slice.Eq.{bytes_eq-Decides}
use Rattle.lists.specs.Lists.{All}
use Rattle.columns.specs.Columns.{column, decimal}
use Rattle.columns.proofs.Columns.{column-length, column-number, column-below}
use Rattle.calls.specs.declared.Refusal.TheVariants.{BadLine}
use Rattle.calls.specs.Leaves.{Scanned}
use Rattle.calls.proofs.Checks.{both}
use Rattle.fibonacci.specs.Leaves.{number_or_zero}
use Rattle.listing_input.specs.Input.{input_line, input_of, fields_of, fields, is_input}
use Rattle.listing_input.specs.Leaves.{parsed}

-- ## Lines

line-length : (n : ℕ) → length (input_line n) ≡ 11
line-length n = omega (arith, length-append (column 10 n) (10 ∷ []), column-length 10 n)

-- a line more in front
lines_cons : (n : ℕ) (ns : List ℕ) → input_of (n ∷ ns) ≡ input_line n ++ input_of ns
unfolding input_of flatten
lines_cons n ns = refl

lines-length : (ns : List ℕ) → length (input_of ns) ≡ 11 * length ns
unfolding input_of flatten
lines-length [] = refl
lines-length (n ∷ ns) = omega (arith, length-append (input_line n) (input_of ns), line-length n, lines-length ns)

fields-count : (k : ℕ) (s : List ℕ) → length (fields_of k s) ≡ k
unfolding fields_of
fields-count zero s = refl
fields-count (suc k) s = ap suc (fields-count k (drop 11 s))

pub fields-length : (s : List ℕ) → length (fields s) ≡ length s / 11
unfolding fields
fields-length s = fields-count (length s / 11) s

-- the first number is read off the first line, and the others off what comes after it
line_read : (n : ℕ) (t : List ℕ) → (take 10 (input_line n ++ t) ≡ column 10 n) × (drop 11 (input_line n ++ t) ≡ t)
line_read n t = (
  ap (take 10) (append_assoc (column 10 n) (10 ∷ []) t) ∙ take_at (column 10 n) ((10 ∷ []) ++ t) 10 (column-length 10 n),
  drop_at (input_line n) t 11 (line-length n),
)

fields-lines : (ns : List ℕ) → All (λ n. n < 10 ^ 10) ns → fields_of (length ns) (input_of ns) ≡ ns
unfolding fields_of
fields-lines [] a = refl
fields-lines (n ∷ ns) a =
    let r = line_read n (input_of ns) in
    rw (lines_cons n ns, r.0, r.1) (ap₂ ◌∷◌ (column-number 10 n a.0) (fields-lines ns a.1))

fields-below : (k : ℕ) (s : List ℕ) → s ≡ input_of (fields_of k s) → All (λ n. n < 10 ^ 10) (fields_of k s)
unfolding fields_of
fields-below zero s e = tt
fields-below (suc k) s e =
    let n : ℕ = decimal (take 10 s) in
    let rest : List ℕ = fields_of k (drop 11 s) in
    let whole : s ≡ input_line n ++ input_of rest = e ∙ lines_cons n rest in
    let r = line_read n (input_of rest) in
    let first : take 10 s ≡ column 10 n = ap (take 10) whole ∙ r.0 in
    let after : drop 11 s ≡ input_of rest = ap (drop 11) whole ∙ r.1 in
    (rw first (column-below 10 n), fields-below k (drop 11 s) after)

-- ## The form

form-below : (s : List ℕ) → s ≡ input_of (fields s) → All (λ n. n < 10 ^ 10) (fields s)
unfolding fields
form-below s e = fields-below (length s / 11) s e

form-read : (ns : List ℕ) → All (λ n. n < 10 ^ 10) ns → fields (input_of ns) ≡ ns
unfolding fields
form-read ns a = let count : length (input_of ns) / 11 ≡ length ns = omega (arith, lines-length ns) in rw count (fields-lines ns a)

-- so a text is an input exactly where it has a line for each of some numbers of up to 10 digits, at least one; and then its numbers are these
pub lines_are : (s : List ℕ) → is_input s ≡ true → (s ≡ input_of (fields s)) × (1 ≤ length (fields s)) × All (λ n. n < 10 ^ 10) (fields s)
unfolding is_input
lines_are s e =
    let p = both (ltb 0 (length s)) (bytes_eq s (input_of (fields s))) e in
    let lines : s ≡ input_of (fields s) = (bytes_eq-Decides s (input_of (fields s))).0 p.1 in
    let some : 0 < length s = ltb-true 0 (length s) p.0 in
    (lines, omega (arith, ap length lines, lines-length (fields s)), form-below s lines)

pub are_lines : (ns : List ℕ) → 1 ≤ length ns → All (λ n. n < 10 ^ 10) ns → (is_input (input_of ns) ≡ true) × (fields (input_of ns) ≡ ns)
unfolding is_input
are_lines ns h a =
    let read = form-read ns a in
    let some : 0 < length (input_of ns) = omega (arith, lines-length ns) in
    (rw (read, lt-ltb 0 (length (input_of ns)) some) ((bytes_eq-Decides (input_of ns) (input_of ns)).1 refl), read)

-- ## A line printed anew and compared

pub line_made : (n : ℕ) → sets (replicate 11 10) 0 (column 10 n) ≡ input_line n
line_made n =
    let long = column-length 10 n in
    let feeds : List ℕ = replicate 11 10 in
    sets-eq (column 10 n) feeds 0 (omega (arith, long)) ∙ rw long refl

bytes-append : (x y x' y' : List ℕ) → length x ≡ length x' → bytes_eq (x ++ y) (x' ++ y') ≡ (bytes_eq x x' && bytes_eq y y')
bytes-append [] y [] y' e = refl
bytes-append [] y (b ∷ x') y' e = absurd (omega arith)
bytes-append (a ∷ x) y [] y' e = absurd (omega arith)
bytes-append (a ∷ x) y (b ∷ x') y' e =
    ap (λ (t : Bool). eqb a b && t) (bytes-append x y x' y' (omega arith)) ∙ sym (and_assoc (eqb a b) (bytes_eq x x') (bytes_eq y y'))

-- ## Reading line by line

-- an input of another form is refused, and the list then may hold anything
refused : (s numbers : List ℕ) → is_input s ≡ false → Scanned (parsed s) (Err BadLine) numbers
unfolding parsed
refused s numbers e = rw e (refl, tt)

-- no line, or a rest that is no whole line
pub input_none : (s numbers : List ℕ) → length s ≡ 0 → Scanned (parsed s) (Err BadLine) numbers
unfolding is_input
input_none s numbers e = refused s numbers (rw e)

pub input_rest : (s numbers : List ℕ) → (length s % 11 ≡ 0 → ⊥) → Scanned (parsed s) (Err BadLine) numbers
unfolding is_input
input_rest s numbers h =
    let other : s ≡ input_of (fields s) → ⊥ = λ e. h (omega (arith, ap length e, lines-length (fields s), fields-length s)) in
    let no : bytes_eq s (input_of (fields s)) ≡ false = false_from_ne_true (bytes_eq s (input_of (fields s))) (λ e. other ((bytes_eq-Decides s (input_of (fields s))).0 e)) in
    refused s numbers (rw no (and-false (ltb 0 (length s))))

-- the next line, which has the number n if it is one, and what comes after it
module _ (line left : List ℕ) (long : length line ≡ 11) (n : ℕ) (e : n ≡ decimal (take 10 line)) where
  fields_more : fields (line ++ left) ≡ n ∷ fields left
  unfolding fields fields_of
  fields_more =
      let count : length (line ++ left) / 11 ≡ suc (length left / 11) = omega (arith, length-append line left) in
      let ten : take 10 (line ++ left) ≡ take 10 line = take-append-le 10 line left (omega arith) in
      rw (count, ten, drop_at line left 11 long, e)

  form_more : bytes_eq (line ++ left) (input_of (fields (line ++ left))) ≡ (bytes_eq line (input_line n) && bytes_eq left (input_of (fields left)))
  form_more = rw (fields_more, lines_cons n (fields left)) (bytes-append line left (input_line n) (input_of (fields left)) (long ∙ sym (line-length n)))

-- after i lines, each of the form, with so much left of the text: that decides, and with its numbers the list has all
pub record Parsed (s : List ℕ) (i : ℕ) (left numbers : List ℕ) : Type 0 where
  pub long : length s ≡ i * 11 + length left
  pub form : is_input s ≡ bytes_eq left (input_of (fields left))
  pub kept : take i numbers ++ map number_or_zero (fields left) ≡ map number_or_zero (fields s)

pub parsed_none : (s numbers : List ℕ) → (length s ≡ 0 → ⊥) → Parsed s 0 s numbers
unfolding is_input
parsed_none s numbers h =
    let some : ltb 0 (length s) ≡ true = lt-ltb 0 (length s) (omega arith) in record { long = omega arith; form = rw some refl; kept = refl }

module _ (s : List ℕ) (i : ℕ) (left numbers : List ℕ) (p : Parsed s i left numbers) where
  module _ (line more : List ℕ) (n : ℕ) (e : left ≡ line ++ more) (long : length line ≡ 11) (q : n ≡ decimal (take 10 line)) where
    pub parsed_other : bytes_eq line (input_line n) ≡ false → Scanned (parsed s) (Err BadLine) numbers
    parsed_other t = refused s numbers (p.form ∙ rw e (form_more line more long n q ∙ rw t refl))

    pub parsed_more : (x : ℕ) → bytes_eq line (input_line n) ≡ true → length s ≤ 11 * length numbers → x ≡ number_or_zero n
        → Parsed s (i + 1) more (set numbers i x)
    parsed_more x t room z =
        let both : length left ≡ length line + length more = ap length e ∙ length-append line more in
        let inside : i < length numbers = omega (arith, p.long) in
        let one : take (i + 1) (set numbers i x) ≡ take i numbers ++ (x ∷ []) = rw add-one (take-suc-set numbers i x inside) in
        record {
          long = omega (arith, p.long);
          form = p.form ∙ rw e (form_more line more long n q ∙ rw t refl);
          kept = rw (one, append_assoc (take i numbers) (x ∷ []) (map number_or_zero (fields more)), z) (rw (e, fields_more line more long n q) at p.kept);
        }

  -- no whole line is left, and nothing else is
  pub parsed_end : length left < 11 → length s % 11 ≡ 0 → Scanned (parsed s) (Ok (length s / 11)) numbers
  unfolding parsed fields fields_of input_of flatten
  parsed_end h whole =
      let none : left ≡ [] = drop_of_length-le left {i = 0} (omega (arith, p.long)) in
      let good : is_input s ≡ true = p.form ∙ rw none refl in
      let all : take i numbers ++ [] ≡ map number_or_zero (fields s) = rw none at p.kept in
      let count : length (map number_or_zero (fields s)) ≡ length s / 11 = length-map (fields s) number_or_zero ∙ fields-length s in
      let read : length s / 11 ≡ i = omega (arith, p.long, ap length none) in
      rw good (ap Ok (sym count), ap (λ (k : ℕ). take k numbers) (count ∙ read) ∙ sym (append-nil (take i numbers)) ∙ all)
