-- A codeword replaced in the bits of a row is a number replaced in the row.
use mathlib.Core.Path.{◌≡◌, refl, sym, ap, ap₂, ◌∙◌}
use mathlib.Core.Bool.{Bool}
use mathlib.Core.List.{List, ◌∷◌, ◌++◌, flatten}
use Prim.Native.Nat.{ℕ, suc, ◌+◌, ◌-◌, ◌≤◌, ◌<◌}
use native.Mathlib.Omega.{arith}
use lib.ListN.{length, get_or, take, drop, set, length-append, length-set}
use lib.Seq.{take_at, drop-append-add, drop-append_seam, split_at, set_split, slice, slice-cons, slice_empty}
use Rattle.lists.specs.Lists.{sum}
use Rattle.lists.proofs.Sums.{sum-append}
use Rattle.fibonacci.specs.Code.{codeword}
use Rattle.fibonacci.specs.Encoding.{row_bits}
use Rattle.fibonacci.proofs.Rows.{bits-append, bits-few}
use Rattle.fibonacci.proofs.Sums.{sum-most}
use Rattle.calls.specs.Limits.{Order, Legal, max_number, max_count}
use Rattle.calls.proofs.Checks.{number_is, legal-at}
use Rattle.headers.specs.Headers.{header, header_of, max_bits, max_total}
use Rattle.bit_moves.specs.Splices.{splice}
use Rattle.bit_moves.proofs.Splices.{splice-length}
use Rattle.word_decoder.specs.declared.Summary.{Summary}
use Rattle.word_decoder.specs.Leaves.{summary}

-- What is told of a row of which one legal number was summed: that number and its codeword are part of it
pub record Replaceable (m : ℕ) (told : Summary) : Type 0 where
  pub some : 1 ≤ told.total
  pub legal : told.total ≤ max_number
  pub part : told.total ≤ told.all
  pub codeword_part : length (codeword m told.total) ≤ told.bits
  pub bits : told.bits ≤ max_bits
  pub total : told.all ≤ max_total

module _ (m : ℕ) (row : List ℕ) (p n : ℕ) (h : p < length row) where
  -- the bit where the place begins, and the number there
  abbrev pub start : ℕ
  start = length (row_bits m (take p row))

  abbrev pub was : ℕ
  was = get_or row p 0

  parts : row_bits m row ≡ row_bits m (take p row) ++ (codeword m was ++ row_bits m (drop (suc p) row))
  unfolding row_bits flatten
  parts = ap (row_bits m) (split_at row p 0 h) ∙ bits-append m (take p row) (was ∷ drop (suc p) row)

  pub start-within : start + length (codeword m was) ≤ length (row_bits m row)
  start-within =
      omega (
        arith,
        ap length parts,
        length-append (row_bits m (take p row)) (codeword m was ++ row_bits m (drop (suc p) row)),
        length-append (codeword m was) (row_bits m (drop (suc p) row)),
      )

  pub splice-row : splice start (length (codeword m was)) (codeword m n) (row_bits m row) ≡ row_bits m (set row p n)
  unfolding splice row_bits flatten
  splice-row =
      let a : List Bool = row_bits m (take p row) in
      let c : List Bool = row_bits m (drop (suc p) row) in
      let behind : drop (start + length (codeword m was)) (a ++ (codeword m was ++ c)) ≡ c =
      drop-append-add a (codeword m was ++ c) (length (codeword m was)) ∙ drop-append_seam (codeword m was) c in
      ap (λ (b : List Bool). take start b ++ (codeword m n ++ drop (start + length (codeword m was)) b)) parts
      ∙ ap₂ (λ (u v : List Bool). u ++ (codeword m n ++ v)) (take_at a (codeword m was ++ c) start refl) behind
      ∙ sym (ap (row_bits m) (set_split row p n h) ∙ bits-append m (take p row) (n ∷ drop (suc p) row))

  pub changed-bits : length (row_bits m row) - length (codeword m was) + length (codeword m n) ≡ length (row_bits m (set row p n))
  changed-bits =
      omega (arith, ap length splice-row, splice-length start (length (codeword m was)) (codeword m n) (row_bits m row) start-within, start-within)

  was-within : was ≤ sum row
  was-within = omega (arith, ap sum (split_at row p 0 h), sum-append (take p row) (was ∷ drop (suc p) row))

  changed-sum : sum row - was + n ≡ sum (set row p n)
  changed-sum =
      let a : List ℕ = take p row in
      let b : List ℕ = drop (suc p) row in
      omega (arith, ap sum (split_at row p 0 h), sum-append a (was ∷ b), ap sum (set_split row p n h), sum-append a (n ∷ b))

  -- the header of the changed row
  pub changed-header : header (length (row_bits m row) - length (codeword m was) + length (codeword m n)) (length row) (sum row - was + n) ≡ header_of m (set row p n)
  changed-header =
      let b = changed-bits in
      let c : length row ≡ length (set row p n) = sym (length-set row p n) in
      let t = changed-sum in
      cc

  -- the sum of a span of one place
  one-sum : (q : ℕ) → q ≡ p + 1 → sum (slice p q row) ≡ was
  one-sum q e =
      let s : q ≡ suc p = omega arith in
      ap (λ (k : ℕ). sum (slice p k row)) s
      ∙ ap sum (slice-cons p (suc p) row 0 (omega arith) h ∙ ap (λ (l : List ℕ). was ∷ l) (slice_empty (suc p) row)) ∙ omega arith

  -- what a scan tells of the row and of that place
  module _ (q : ℕ) (e : q ≡ p + 1) (told : Summary) (t : told ≡ summary m p q row) where
    told-number : told.total ≡ was
    told-number = ap (λ (f : Summary). f.total) t ∙ one-sum q e

    pub told-codeword : length (codeword m told.total) ≡ length (codeword m was)
    told-codeword = ap (λ (k : ℕ). length (codeword m k)) told-number

    pub replaceable : Order m → Legal max_number row → length row ≤ max_count → Replaceable m told
    replaceable o legal long =
        let n = number_is max_number was (legal-at max_number row p legal h) in
        let bits = ap (λ (f : Summary). f.bits) t in
        let all = ap (λ (f : Summary). f.all) t in
        record {
          some = omega (arith, n, told-number);
          legal = omega (arith, n, told-number);
          part = omega (arith, told-number, all, was-within);
          codeword_part = omega (arith, told-codeword, bits, start-within);
          bits = omega (arith, bits, bits-few m row o legal, long);
          total = omega (arith, all, sum-most max_number (omega arith) row legal, long);
        }

    -- the header afterwards
    pub told-changed : {old len : ℕ} → old ≡ length (codeword m told.total) → len ≡ length (codeword m n)
        → header (told.bits - old + len) told.count (told.all - told.total + n) ≡ header_of m (set row p n)
    told-changed {old} {len} eo el =
        let bits : told.bits - old + len ≡ length (row_bits m row) - length (codeword m was) + length (codeword m n) =
        omega (arith, ap (λ (f : Summary). f.bits) t, eo, told-codeword, el) in
        let count : told.count ≡ length row = ap (λ (f : Summary). f.count) t in
        let total : told.all - told.total + n ≡ sum row - was + n = omega (arith, ap (λ (f : Summary). f.all) t, told-number) in
        let changed = changed-header in
        cc
