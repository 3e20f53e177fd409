-- A row, number by number: its bits, and these put into a buffer.
use mathlib.Core.Path.{◌≡◌, refl, sym, ap, ◌∙◌}
use mathlib.Core.Bool.{Bool}
use mathlib.Core.List.{List, [], ◌∷◌, ◌++◌, flatten}
use Prim.Native.Nat.{ℕ, ◌+◌, ◌*◌, ◌≤◌, ◌<◌}
use native.Mathlib.Omega.{arith}
use native.Mathlib.Numerals.{add-one}
use lib.ListN.{length, get_or, take, drop, length-append, take-append-drop, drop_of_length-le}
use lib.Seq.{take-suc, take_all}
use Rattle.lists.proofs.Lists.{drop-next}
use Rattle.bits.specs.Bits.{byte_count, unpack}
use Rattle.bits.specs.Leaves.{put_to, put_at}
use Rattle.bits.proofs.Bytes.{unpack-length}
use Rattle.bits.proofs.Packing.{unpack-pack, pack-length}
use Rattle.bits.proofs.Put.{Filled, filled_none, filled_more, filled-end}
use Rattle.fibonacci.specs.Code.{codeword}
use Rattle.fibonacci.specs.Encoding.{row_bits, encoding}
use Rattle.fibonacci.proofs.Rows.{bits-append, bits-snoc}

-- ## The number n at place i

module _ (row : List ℕ) (i n : ℕ) (h : i < length row) (e : n ≡ get_or row i 0) where
  left : drop i row ≡ n ∷ drop (i + 1) row
  left = drop-next row i 0 h e

  pub bits_left : (m : ℕ) → row_bits m (drop i row) ≡ codeword m n ++ row_bits m (drop (i + 1) row)
  unfolding row_bits flatten
  bits_left m = rw left

  bits-done : (m : ℕ) → row_bits m (take (i + 1) row) ≡ row_bits m (take i row) ++ codeword m n
  bits-done m =
      let t : take (i + 1) row ≡ take i row ++ (n ∷ []) = rw (add-one, e) (take-suc row i 0 h) in
      ap (row_bits m) t ∙ bits-snoc m (take i row) n

bits-split : (m i : ℕ) (row : List ℕ) → row_bits m row ≡ row_bits m (take i row) ++ row_bits m (drop i row)
bits-split m i row = ap (row_bits m) (sym (take-append-drop i row)) ∙ bits-append m (take i row) (drop i row)

pub bits-end : (m i : ℕ) (row : List ℕ) → length row ≤ i → row_bits m (drop i row) ≡ []
unfolding row_bits flatten
bits-end m i row h = rw (drop_of_length-le row {i = i} h)

-- ## Putting

-- after i numbers: their codewords stand in the buffer that was old, and from byte c on it is as it was
abbrev pub Put : ℕ → List ℕ → ℕ → ℕ → ℕ → List Bool → List Bool → Type 0
Put m row c i at now old = (at ≡ length (row_bits m (take i row))) × Filled (row_bits m (take i row)) (8 * c) now old

pub put-none : (m : ℕ) (row : List ℕ) (c : ℕ) (old : List Bool) → Put m row c 0 0 old old
unfolding row_bits flatten
put-none m row c old = (refl, filled_none (8 * c) old)

module _ (m : ℕ) (row : List ℕ) (c i at : ℕ) (now old : List Bool) (p : Put m row c i at now old) where
  pub put-room : (n : ℕ) → i < length row → n ≡ get_or row i 0 → at + length (codeword m n) ≤ length (row_bits m row)
  put-room n h e =
      omega (
        arith,
        p.0,
        ap length (bits-split m i row),
        length-append (row_bits m (take i row)) (row_bits m (drop i row)),
        ap length (bits_left row i n h e m),
        length-append (codeword m n) (row_bits m (drop (i + 1) row)),
      )

  -- with zeros up to bit d
  pub put_next : (n d : ℕ) (new : List Bool) → i < length row → n ≡ get_or row i 0 → 8 * byte_count (at + length (codeword m n)) ≤ d → d ≤ 8 * c
      → new ≡ put_to at (codeword m n) d now → Put m row c (i + 1) (at + length (codeword m n)) new old
  put_next n d new h e g k q =
      let b : List Bool = row_bits m (take i row) in
      rw (bits-done row i n h e m) (
        ap (λ (k : ℕ). k + length (codeword m n)) p.0 ∙ sym (length-append b (codeword m n)),
        rw (q, p.0) (filled_more b (codeword m n) (8 * c) d now old p.1 (rw p.0 at g) k),
      )

  pub put-end : length row ≤ i → c ≡ byte_count (length (row_bits m row)) → now ≡ put_at 0 (row_bits m row) old
  put-end h e = filled-end (row_bits m row) now old (rw (take_all i row h, e) at p.1)

-- at the end a buffer of exactly the encoding's bytes has the bits of the encoding
pub put-whole : (m c i at : ℕ) (row out : List ℕ) (old : List Bool) → Put m row c i at (unpack out) old → length row ≤ i → length out ≡ length (encoding m row)
    → unpack out ≡ unpack (encoding m row)
unfolding encoding
put-whole m c i at row out old p h l =
    let b : List Bool = row_bits m row in
    let all : take (8 * byte_count (length b)) (unpack out) ≡ unpack out =
    take_all (8 * byte_count (length b)) (unpack out) (omega (arith, unpack-length out, l, pack-length b)) in
    sym all ∙ rw (take_all i row h) at p.1.0 ∙ sym (unpack-pack b)
