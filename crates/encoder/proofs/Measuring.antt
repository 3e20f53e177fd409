-- A row, number by number: its check, and its header.
use mathlib.Core.Path.{◌≡◌, refl, sym, ap, ◌∙◌}
use mathlib.Core.Bool.{true, false}
use mathlib.Core.List.{List, []}
use Prim.Native.Nat.{ℕ, ◌+◌, ◌*◌, ◌≤◌, ◌<◌}
use native.Mathlib.Omega.{arith}
use lib.ListN.{length, get_or, drop, length-append, drop_of_length-le}
use Rattle.lists.specs.Lists.{sum}
use Rattle.lists.proofs.Lists.{drop-next}
use Rattle.fibonacci.specs.Code.{codeword}
use Rattle.fibonacci.specs.Encoding.{row_bits}
use Rattle.calls.specs.declared.Refusal.TheVariants.{BadNumber}
use Rattle.calls.specs.Calls.{Outcome}
use Rattle.calls.specs.Limits.{is_number, max_number, check_each}
use Rattle.calls.proofs.Checks.{number_is, each_more, each-fault}
use Rattle.headers.specs.declared.Header.{Header}
use Rattle.headers.specs.Headers.{header, header_of}
use Rattle.codeword_writer.proofs.Rows.{bits_left, bits-end}
use Rattle.std.specs.Prelude.{Ok, Err}

-- the numbers from place i on are still to be checked
abbrev unchecked : ℕ → ℕ → List ℕ → ℕ → Outcome Header
unchecked m limit row i = check_each BadNumber limit i (drop i row) (Ok (header_of m row))

-- after i numbers: none of them is at fault, their codewords have so many bits, and their total is so large
pub record Counted (m limit : ℕ) (row : List ℕ) (i bits total : ℕ) : Type 0 where
  pub few : bits ≤ 47 * i
  pub small : total ≤ max_number * i
  pub bits_are : bits + length (row_bits m (drop i row)) ≡ length (row_bits m row)
  pub total_is : total + sum (drop i row) ≡ sum row
  pub checked : unchecked m limit row 0 ≡ unchecked m limit row i

pub counted_none : (m limit : ℕ) (row : List ℕ) → Counted m limit row 0 0 0
counted_none m limit row = record { few = omega arith; small = omega arith; bits_are = omega arith; total_is = omega arith; checked = refl }

module _ (m limit : ℕ) (row : List ℕ) (i bits total : ℕ) (c : Counted m limit row i bits total) where
  pub counted-more : (n len : ℕ) → i < length row → n ≡ get_or row i 0 → is_number limit n ≡ true → limit ≤ max_number → len ≡ length (codeword m n) → len ≤ 47
      → Counted m limit row (i + 1) (bits + len) (total + n)
  counted-more n len h e q top is short =
      record {
        few = omega (arith, c.few);
        small = omega (arith, c.small, (number_is limit n q).1);
        bits_are = omega (arith, c.bits_are, ap length (bits_left row i n h e m), length-append (codeword m n) (row_bits m (drop (i + 1) row)));
        total_is = omega (arith, c.total_is, ap sum (drop-next row i 0 h e));
        checked = c.checked ∙ each_more BadNumber limit row i n h e (Ok (header_of m row)) q;
      }

  pub counted-fault : (n : ℕ) → i < length row → n ≡ get_or row i 0 → is_number limit n ≡ false → Err (BadNumber i) ≡ unchecked m limit row 0
  counted-fault n h e q = sym (c.checked ∙ each-fault BadNumber limit row i n h e (Ok (header_of m row)) q)

  pub counted-end : length row ≤ i → Ok (header bits (length row) total) ≡ unchecked m limit row 0
  unfolding check_each
  counted-end h =
      let none : drop i row ≡ [] = drop_of_length-le row {i = i} h in
      let b : bits ≡ length (row_bits m row) = omega (arith, c.bits_are, ap length (bits-end m i row h)) in
      let t : total ≡ sum row = omega (arith, c.total_is, ap sum none) in
      let same : ◌≡◌ {A = Header} (header bits (length row) total) (header_of m row) = cc in
      sym (c.checked ∙ rw none (ap Ok (sym same)))
