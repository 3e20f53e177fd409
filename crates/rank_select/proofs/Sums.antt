-- The ones of bytes, as sums: of the bytes, and of the words that eight of them make.
use mathlib.Core.Path.{◌≡◌, refl, sym, ap, ap₂, ◌∙◌}
use mathlib.Core.Bool.{true}
use mathlib.Core.List.{List, [], ◌∷◌, flatten}
use Prim.Native.Nat.{ℕ, zero, suc, ◌+◌, ◌*◌, ◌/◌, ◌≤◌}
use native.Mathlib.Omega.{arith}
use lib.ListN.{length, take, drop, take-append-drop}
use lib.Seq.{take-add}
use lib.Count.{ones}
use Rattle.std.specs.List.{sum_by}
use Rattle.std.specs.Int.{w64, from_be_bytes}
use Rattle.std.specs.Simd.{first_chunks}
use Rattle.std.proofs.lemmas.List.Sums.{sum_by-cons}
use Rattle.bits.specs.Bits.{Bytes, word_bits, unpack, count}
use Rattle.bits.proofs.Bytes.{unpack-append, unpack-length}
use Rattle.bits.proofs.Packing.{bytes_drop}
use Rattle.bits.proofs.Put.{be-below, be-bits}
use Rattle.bits.proofs.Count.{count-append, count-le, count_word}

bytes-ones : (s : List ℕ) → Bytes s → sum_by (λ b. ones b) s ≡ count true (unpack s)
unfolding unpack flatten count
bytes-ones [] h = refl
bytes-ones (b ∷ s) h =
    sum_by-cons (λ b. ones b) b s ∙ ap₂ (λ (x y : ℕ). x + y) (sym (count_word 8 b (h 0))) (bytes-ones s (λ i. h (suc i)))
    ∙ sym (count-append true (word_bits 8 b) (unpack s))

pub word-ones : (l : List ℕ) → length l ≡ 8 → Bytes l → {w : ℕ} → w ≡ from_be_bytes w64 l → ones w ≡ count true (unpack l)
word-ones l h b e = rw e (sym (count_word 64 (from_be_bytes w64 l) (be-below l b)) ∙ ap (count true) (be-bits l h b refl))

words-ones : (k : ℕ) (s : List ℕ) → sum_by (λ w. count true (unpack w)) (first_chunks 8 k s) ≡ count true (unpack (take (8 * k) s))
unfolding unpack flatten count
words-ones zero s = refl
words-ones (suc k) s =
    let n : 8 * suc k ≡ 8 + 8 * k = omega arith in
    sum_by-cons (λ w. count true (unpack w)) (take 8 s) (first_chunks 8 k (drop 8 s)) ∙ ap (λ (x : ℕ). count true (unpack (take 8 s)) + x) (words-ones k (drop 8 s))
    ∙ sym (count-append true (unpack (take 8 s)) (unpack (take (8 * k) (drop 8 s))))
    ∙ ap (count true) (sym (unpack-append (take 8 s) (take (8 * k) (drop 8 s))) ∙ ap unpack (sym (take-add 8 (8 * k) s) ∙ ap (λ (j : ℕ). take j s) (sym n)))

-- the words of eight bytes, and the bytes that are left
abbrev pub of_words : List ℕ → ℕ
of_words s = sum_by (λ w. count true (unpack w)) (first_chunks 8 (length s / 8) s)

abbrev pub of_bytes : List ℕ → ℕ
of_bytes s = sum_by (λ b. ones b) (drop (length s / 8 * 8) s)

pub all-ones : (s : List ℕ) → Bytes s → of_words s + of_bytes s ≡ count true (unpack s)
all-ones s b =
    let k : ℕ = length s / 8 in
    let n : k * 8 ≡ 8 * k = omega arith in
    ap₂ (λ (x y : ℕ). x + y) (words-ones k s)
    (ap (λ (j : ℕ). sum_by (λ b. ones b) (drop j s)) n ∙ bytes-ones (drop (8 * k) s) (bytes_drop (8 * k) s b))
    ∙ sym (count-append true (unpack (take (8 * k) s)) (unpack (drop (8 * k) s)))
    ∙ ap (count true) (sym (unpack-append (take (8 * k) s) (drop (8 * k) s)) ∙ ap unpack (take-append-drop (8 * k) s))

pub few-ones : (s : List ℕ) → Bytes s → of_words s + of_bytes s ≤ 8 * length s
few-ones s b = omega (arith, all-ones s b, count-le true (unpack s), unpack-length s)
