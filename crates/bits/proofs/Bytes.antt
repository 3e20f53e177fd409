-- The bits of a list of bytes: how many, which stands where, and what a changed byte changes.
use mathlib.Core.Path.{◌≡◌, refl, sym, ap, ◌∙◌, subst}
use mathlib.Core.Bool.{Bool, false}
use mathlib.Core.List.{List, [], ◌∷◌, ◌++◌, flatten}
use Prim.Native.Nat.{ℕ, zero, suc, ◌+◌, ◌-◌, ◌*◌, ◌/◌, ◌%◌, ◌^◌, ◌≤◌, ◌<◌}
use native.Mathlib.Omega.{arith}
use lib.ListN.{length, get_or, take, drop, set, length-append, get_or-append, get_or-eq_default}
use lib.Seq.{take_at, take-append-le, get_or-append-add, set-append_left, set_out, take-nil, drop-nil, take-append-add, drop-append-add}
use lib.Pow.{shr_lt}
use lib.Bits.{bit_and, and_mask}
use Rattle.lists.proofs.Lists.{flatten-map-append, set-append-add}
use Rattle.bits.specs.Bits.{bit_of, word_bits, unpack}
use Rattle.bits.proofs.Words.{words-length, words-at, words-split}

pub unpack-append : (s t : List ℕ) → unpack (s ++ t) ≡ unpack s ++ unpack t
unfolding unpack
unpack-append = flatten-map-append (word_bits 8)

pub unpack-length : (s : List ℕ) → length (unpack s) ≡ 8 * length s
unfolding unpack flatten
unpack-length [] = refl
unpack-length (b ∷ s) = omega (arith, length-append (word_bits 8 b) (unpack s), words-length 8 b, unpack-length s)

pub unpack-drop : (s : List ℕ) (n : ℕ) → unpack (drop n s) ≡ drop (8 * n) (unpack s)
unfolding unpack flatten
unpack-drop s zero = refl
unpack-drop [] (suc n) = sym (drop-nil (8 * suc n))
unpack-drop (b ∷ s) (suc n) =
    let e : 8 * suc n ≡ length (word_bits 8 b) + 8 * n = omega (arith, words-length 8 b) in
    unpack-drop s n ∙ sym (ap (λ (k : ℕ). drop k (word_bits 8 b ++ unpack s)) e ∙ drop-append-add (word_bits 8 b) (unpack s) (8 * n))

pub unpack-take : (s : List ℕ) (n : ℕ) → unpack (take n s) ≡ take (8 * n) (unpack s)
unfolding unpack flatten
unpack-take s zero = refl
unpack-take [] (suc n) = sym (take-nil (8 * suc n))
unpack-take (b ∷ s) (suc n) =
    let e : 8 * suc n ≡ length (word_bits 8 b) + 8 * n = omega (arith, words-length 8 b) in
    ap (λ (l : List Bool). word_bits 8 b ++ l) (unpack-take s n)
    ∙ sym (ap (λ (k : ℕ). take k (word_bits 8 b ++ unpack s)) e ∙ take-append-add (word_bits 8 b) (unpack s) (8 * n))

-- ## One bit

-- bit r of byte q
at_byte : (s : List ℕ) (q r : ℕ) → r < 8 → q < length s → get_or (unpack s) (8 * q + r) false ≡ bit_of (get_or s q 0) (7 - r)
unfolding unpack flatten
at_byte [] q r h i = absurd (omega arith)
at_byte (b ∷ s) zero r h i =
    ap (λ (n : ℕ). get_or (word_bits 8 b ++ unpack s) n false) (omega arith)
    ∙ get_or-append (word_bits 8 b) (unpack s) false r (omega (arith, words-length 8 b)) ∙ words-at 8 b r h
at_byte (b ∷ s) (suc q) r h i =
    let e : 8 * suc q + r ≡ length (word_bits 8 b) + (8 * q + r) = omega (arith, words-length 8 b) in
    ap (λ (n : ℕ). get_or (word_bits 8 b ++ unpack s) n false) e
    ∙ get_or-append-add (word_bits 8 b) (unpack s) (8 * q + r) false ∙ at_byte s q r h (omega arith)

-- the machine's way to bit k: byte k >> 3, and there k & 7 from the top
pub bit_at : (s : List ℕ) (k : ℕ) → k / 8 < length s → get_or (unpack s) k false ≡ bit_of (get_or s (k / 8) 0) (7 - bit_and k 7)
bit_at s k h =
    let e : k ≡ 8 * (k / 8) + k % 8 = omega arith in
    ap (λ (n : ℕ). get_or (unpack s) n false) e ∙ at_byte s (k / 8) (k % 8) (omega arith) h
    ∙ ap (λ (r : ℕ). bit_of (get_or s (k / 8) 0) (7 - r)) (sym (and_mask k 3))

pub bit_past : (s : List ℕ) (k : ℕ) → length s ≤ k / 8 → get_or (unpack s) k false ≡ false
bit_past s k h = get_or-eq_default (unpack s) false (omega (arith, unpack-length s))

pub high-below : (b o : ℕ) → o ≤ 8 → b < 256 → b / 2 ^ (8 - o) < 2 ^ o
high-below b o h l =
    let e : 8 ≡ o + (8 - o) = omega arith in
    shr_lt o (8 - o) (subst (λ (n : ℕ). b < 2 ^ n) e l)

-- the high bits of a byte are its first
pub top-bits : (b o : ℕ) → o ≤ 8 → word_bits o (b / 2 ^ (8 - o)) ≡ take o (word_bits 8 b)
top-bits b o h =
    let e : o + (8 - o) ≡ 8 = omega arith in
    sym (take_at (word_bits o (b / 2 ^ (8 - o))) (word_bits (8 - o) b) o (words-length o (b / 2 ^ (8 - o))))
    ∙ ap (take o) (sym (words-split o (8 - o) b) ∙ ap (λ (n : ℕ). word_bits n b) e)

-- the first bits are the high bits of the first byte
pub first-bits : (s : List ℕ) (o : ℕ) → o ≤ 8 → 1 ≤ length s → word_bits o (get_or s 0 0 / 2 ^ (8 - o)) ≡ take o (unpack s)
unfolding unpack flatten
first-bits [] o h i = absurd (omega arith)
first-bits (b ∷ s) o h i = top-bits b o h ∙ sym (take-append-le o (word_bits 8 b) (unpack s) (omega (arith, words-length 8 b)))

-- ## One bit changed

-- byte q becomes y, which differs from it in bit r alone
set-byte : (s : List ℕ) (q r y : ℕ) (v : Bool) → r < 8 → q < length s → word_bits 8 y ≡ set (word_bits 8 (get_or s q 0)) r v
    → unpack (set s q y) ≡ set (unpack s) (8 * q + r) v
unfolding unpack flatten
set-byte [] q r y v h i e = absurd (omega arith)
set-byte (b ∷ s) zero r y v h i e =
    let n : r ≡ 8 * 0 + r = omega arith in
    ap (λ (l : List Bool). l ++ unpack s) e
    ∙ sym (set-append_left (word_bits 8 b) (unpack s) r v (omega (arith, words-length 8 b)))
    ∙ ap (λ (k : ℕ). set (word_bits 8 b ++ unpack s) k v) n
set-byte (b ∷ s) (suc q) r y v h i e =
    let n : length (word_bits 8 b) + (8 * q + r) ≡ 8 * suc q + r = omega (arith, words-length 8 b) in
    ap (λ (l : List Bool). word_bits 8 b ++ l) (set-byte s q r y v h (omega arith) e)
    ∙ sym (set-append-add (word_bits 8 b) (unpack s) (8 * q + r) v) ∙ ap (λ (k : ℕ). set (word_bits 8 b ++ unpack s) k v) n

pub set_bit_at : (s : List ℕ) (k y : ℕ) (v : Bool) → k / 8 < length s → word_bits 8 y ≡ set (word_bits 8 (get_or s (k / 8) 0)) (7 - (7 - bit_and k 7)) v
    → unpack (set s (k / 8) y) ≡ set (unpack s) k v
set_bit_at s k y v h e =
    let n : 7 - (7 - bit_and k 7) ≡ k % 8 = omega (arith, and_mask k 3) in
    let m : 8 * (k / 8) + k % 8 ≡ k = omega arith in
    set-byte s (k / 8) (k % 8) y v (omega arith) h (e ∙ ap (λ (j : ℕ). set (word_bits 8 (get_or s (k / 8) 0)) j v) n)
    ∙ ap (λ (n : ℕ). set (unpack s) n v) m

pub set_bit_past : (s : List ℕ) (k : ℕ) (v : Bool) → length s ≤ k / 8 → set (unpack s) k v ≡ unpack s
set_bit_past s k v h = set_out (unpack s) k v (omega (arith, unpack-length s))
