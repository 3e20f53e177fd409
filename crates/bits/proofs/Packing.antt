-- Packing: the bits of packed bytes are the bits that were packed, and fewer than 8 zeros.
use mathlib.Core.Path.{◌≡◌, refl, sym, ap, ap₂, ◌∙◌}
use mathlib.Core.Bool.{Bool, true, false}
use mathlib.Core.List.{List, [], ◌∷◌, ◌++◌, flatten, append_assoc, append_cancel_right}
use mathlib.Core.Logic.{◌⊎◌, inl, inr}
use Prim.Native.Nat.{ℕ, zero, suc, ◌+◌, ◌-◌, ◌*◌, ◌%◌, ◌^◌, ◌≤◌, ◌<◌}
use native.Mathlib.Omega.{arith}
use native.Mathlib.Nat.{two-pow-succ, mod-eq_of_lt}
use native.Mathlib.Decide.{dec_le}
use lib.ListN.{length, take, drop, replicate, replicate-append-replicate}
use lib.Seq.{drop_at, get_or-drop}
use lib.Pow.{mod-pow-add}
use Rattle.bits.specs.Bits.{word_bits, unpack, word_of, bytes_of, byte_count, pack, padding, Bytes}
use Rattle.bits.specs.Leaves.{fit}
use Rattle.bits.proofs.Words.{words-length, words-cons, words-zero, bit-value}
use Rattle.bits.proofs.Bytes.{unpack-length}
use Rattle.bits.proofs.Fit.{fit-nil, fit-add, fit-long}

pub word_below : (n : ℕ) (b : List Bool) → word_of n b < 2 ^ n
unfolding word_of
word_below zero b = omega arith
word_below (suc n) [] = omega (arith, two-pow-succ n, word_below n [])
word_below (suc n) (false ∷ b) = omega (arith, two-pow-succ n, word_below n b)
word_below (suc n) (true ∷ b) = omega (arith, two-pow-succ n, word_below n b)

bytes-length : (c : ℕ) (b : List Bool) → length (bytes_of c b) ≡ c
unfolding bytes_of
bytes-length zero b = refl
bytes-length (suc c) b = ap suc (bytes-length c (drop 8 b))

pub pack-length : (b : List Bool) → length (pack b) ≡ byte_count (length b)
unfolding pack
pack-length b = bytes-length (byte_count (length b)) b

-- ## Unpacking what was packed

-- the bits of a number are those that made it
pub bits-of-word : (n : ℕ) (b : List Bool) → word_bits n (word_of n b) ≡ fit n b
unfolding fit word_of
bits-of-word zero b = words-zero 0
bits-of-word (suc n) [] = words-zero (suc n) ∙ sym (fit-nil (suc n))
bits-of-word (suc n) (a ∷ b) = words-cons a n (word_of n b) (word_below n b) ∙ ap (λ (l : List Bool). a ∷ l) (bits-of-word n b)

pub unpack-bytes : (c : ℕ) (b : List Bool) → unpack (bytes_of c b) ≡ fit (8 * c) b
unfolding bytes_of unpack flatten fit
unpack-bytes zero b = refl
unpack-bytes (suc c) b =
    let e : 8 + 8 * c ≡ 8 * suc c = omega arith in
    ap₂ (λ (u v : List Bool). u ++ v) (bits-of-word 8 b) (unpack-bytes c (drop 8 b))
    ∙ sym (fit-add 8 (8 * c) b) ∙ ap (λ (n : ℕ). fit n b) e

pub padding-below : (n : ℕ) → padding n < 8
unfolding padding
padding-below n = omega arith

-- Unpacking a packing gives the bits and the padding
pub unpack-pack : (b : List Bool) → unpack (pack b) ≡ b ++ replicate (padding (length b)) false
unfolding pack padding
unpack-pack b =
    unpack-bytes (byte_count (length b)) b ∙ ap (λ (n : ℕ). fit n b) (omega arith) ∙ fit-long b (8 * byte_count (length b) - length b)

-- Two lists of bits with equal packings differ in trailing zeros only, fewer than 8
pub pack-apart : (a b : List Bool) → pack a ≡ pack b
    → (k : ℕ) × (k < 8) × ((a ≡ b ++ replicate k false) ⊎ (b ≡ a ++ replicate k false))
pack-apart a b e =
    let i : ℕ = padding (length a) in
    let j : ℕ = padding (length b) in
    let same : a ++ replicate i false ≡ b ++ replicate j false = sym (unpack-pack a) ∙ ap unpack e ∙ unpack-pack b in
    elim (dec_le i j) [
      | yes h ↦ (j - i, omega (arith, padding-below (length b)), inl (shorter a b i j h same))
      | no h ↦ (i - j, omega (arith, padding-below (length a)), inr (shorter b a j i (omega arith) (sym same)))
    ]
  where
    shorter : (a b : List Bool) (i j : ℕ) → i ≤ j → a ++ replicate i false ≡ b ++ replicate j false → a ≡ b ++ replicate (j - i) false
    shorter a b i j h e =
        let n : j - i + i ≡ j = omega arith in
        append_cancel_right a (b ++ replicate (j - i) false) (replicate i false)
        (e ∙ ap (λ (k : ℕ). b ++ replicate k false) (sym n) ∙ ap (λ (l : List Bool). b ++ l) (sym (replicate-append-replicate (j - i) i false))
        ∙ sym (append_assoc b (replicate (j - i) false) (replicate i false)))

-- ## Packing what was unpacked

pub word-of-bits : (n x : ℕ) (t : List Bool) → word_of n (word_bits n x ++ t) ≡ x % 2 ^ n
unfolding word_of word_bits
word-of-bits zero x t = omega arith
word-of-bits (suc n) x t =
    let e : 1 + n ≡ suc n = omega arith in
    ap₂ (λ (u v : ℕ). u * 2 ^ n + v) (bit-value x n) (word-of-bits n x t) ∙ sym (mod-pow-add x 1 n) ∙ ap (λ (k : ℕ). x % 2 ^ k) e

bytes-unpack : (s : List ℕ) → Bytes s → bytes_of (length s) (unpack s) ≡ s
unfolding bytes_of unpack flatten
bytes-unpack [] h = refl
bytes-unpack (b ∷ s) h =
    ap₂ (λ (x : ℕ) (l : List ℕ). x ∷ l)
    (word-of-bits 8 b (unpack s) ∙ mod-eq_of_lt (h 0))
    (ap (bytes_of (length s)) (drop_at (word_bits 8 b) (unpack s) 8 (words-length 8 b)) ∙ bytes-unpack s (λ i. h (suc i)))

-- Packing the bits of bytes gives the bytes
pub pack-unpack : (s : List ℕ) → Bytes s → pack (unpack s) ≡ s
unfolding pack
pack-unpack s h =
    let e : byte_count (length (unpack s)) ≡ length s = omega (arith, unpack-length s) in
    ap (λ (c : ℕ). bytes_of c (unpack s)) e ∙ bytes-unpack s h

-- ## Bytes

pub bytes-append : (s t : List ℕ) → Bytes s → Bytes t → Bytes (s ++ t)
bytes-append [] t hs ht i = ht i
bytes-append (b ∷ s) t hs ht zero = hs 0
bytes-append (b ∷ s) t hs ht (suc i) = bytes-append s t (λ i. hs (suc i)) ht i

pub bytes_drop : (n : ℕ) (s : List ℕ) → Bytes s → Bytes (drop n s)
bytes_drop n s h i = rw (get_or-drop n s i 0) (h (n + i))

pub bytes_take : (n : ℕ) (s : List ℕ) → Bytes s → Bytes (take n s)
bytes_take zero s h i = omega arith
bytes_take (suc n) [] h i = h i
bytes_take (suc n) (b ∷ s) h zero = h 0
bytes_take (suc n) (b ∷ s) h (suc i) = bytes_take n s (λ i. h (suc i)) i

bytes-bytes : (c : ℕ) (b : List Bool) → Bytes (bytes_of c b)
unfolding bytes_of
bytes-bytes zero b i = omega arith
bytes-bytes (suc c) b zero = word_below 8 b
bytes-bytes (suc c) b (suc i) = bytes-bytes c (drop 8 b) i

pub pack-bytes : (b : List Bool) → Bytes (pack b)
unfolding pack
pack-bytes b = bytes-bytes (byte_count (length b)) b

-- bytes with the same bits are the same
pub unpack-apart : (s t : List ℕ) → Bytes s → Bytes t → unpack s ≡ unpack t → s ≡ t
unpack-apart s t hs ht e = sym (pack-unpack s hs) ∙ ap pack e ∙ pack-unpack t ht
