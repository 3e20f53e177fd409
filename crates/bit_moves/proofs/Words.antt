-- Words made of others' bits, and read from bytes that may end before them.
use mathlib.Core.Path.{◌≡◌, refl, sym, ap, ap₂, subst, ◌∙◌}
use mathlib.Core.Bool.{Bool, false}
use mathlib.Core.List.{List, ◌++◌, append_assoc, flatten}
use Prim.Native.Nat.{ℕ, zero, suc, min, ◌+◌, ◌-◌, ◌*◌, ◌/◌, ◌%◌, ◌^◌, ◌≤◌, ◌<◌}
use native.Mathlib.Omega.{arith}
use native.Mathlib.Nat.{mul-div_cancel, mul-mod_left}
use lib.ListN.{length, take, drop, replicate, length-append, length-drop, length-replicate, drop_of_length-le, replicate-append-replicate}
use lib.Seq.{take_at, take_all, length-take-le}
use native.Mathlib.Decide.{dec_le}
use Rattle.std.proofs.lemmas.List.{drop-replicate}
use Rattle.bits.proofs.Packing.{bytes-append, bytes_take}
use lib.Pow.{shl_exact, shr_lt, pow-add, pow_pos}
use lib.Bits.{bit_or, or_shifted}
use lib.Arith.{digits_lt, mod-mul}
use Rattle.std.specs.Int.{w64, from_be_bytes}
use Rattle.bits.specs.Bits.{Bytes, word_bits, unpack}
use Rattle.bits.specs.Leaves.{fit}
use Rattle.bits.proofs.Words.{words-length, words-split, words-mod, words-join, words-zero}
use Rattle.bits.proofs.Bytes.{unpack-append, unpack-length, unpack-take}
use Rattle.bits.proofs.Fit.{fit-nil, fit-add, fit-take}
use Rattle.bits.proofs.Put.{be-bits}

-- ## Shifts

-- a word shifted up until only its c low bits are left
shifted-out : (x c d : ℕ) → c + d ≡ 64 → x * 2 ^ d % 2 ^ 64 ≡ (x % 2 ^ c) * 2 ^ d
shifted-out x c d e =
    let none : x * 2 ^ d % 2 ^ d ≡ 0 = mul-mod_left x (2 ^ d) in
    let back : x * 2 ^ d / 2 ^ d ≡ x = mul-div_cancel x (pow_pos d) in
    ap (λ (k : ℕ). x * 2 ^ d % 2 ^ k) (sym e) ∙ ap (λ (k : ℕ). x * 2 ^ d % k) (pow-add 2 c d) ∙ mod-mul (x * 2 ^ d) (pow_pos c) (pow_pos d)
    ∙ ap₂ (λ (a b : ℕ). (a % 2 ^ c) * 2 ^ d + b) back none ∙ omega arith

pub words-two : (before c w : ℕ) → (1 ≤ c) × (c < 64) → w < 2 ^ 64
    → word_bits 64 (bit_or (before * 2 ^ (64 - c) % 2 ^ 64) (w / 2 ^ c)) ++ word_bits c w ≡ word_bits c before ++ word_bits 64 w
words-two before c w (i, j) k =
    let d : ℕ = 64 - c in
    let up : 64 ≡ c + d = omega arith in
    let down : 64 ≡ d + c = omega arith in
    let few : w / 2 ^ c < 2 ^ d = shr_lt d c (subst (λ (n : ℕ). w < 2 ^ n) down k) in
    let value : bit_or (before * 2 ^ d % 2 ^ 64) (w / 2 ^ c) ≡ (before % 2 ^ c) * 2 ^ d + w / 2 ^ c =
    ap (λ (x : ℕ). bit_or x (w / 2 ^ c)) (shifted-out before c d (sym up)) ∙ or_shifted (before % 2 ^ c) d (w / 2 ^ c) few in
    let first : word_bits 64 ((before % 2 ^ c) * 2 ^ d + w / 2 ^ c) ≡ word_bits c before ++ word_bits d (w / 2 ^ c) =
    ap (λ (n : ℕ). word_bits n ((before % 2 ^ c) * 2 ^ d + w / 2 ^ c)) up ∙ words-join c d (before % 2 ^ c) (w / 2 ^ c) few
    ∙ ap (λ (l : List Bool). l ++ word_bits d (w / 2 ^ c)) (words-mod c c before (omega arith)) in
    let second : word_bits 64 w ≡ word_bits d (w / 2 ^ c) ++ word_bits c w = ap (λ (n : ℕ). word_bits n w) down ∙ words-split d c w in
    ap (λ (l : List Bool). l ++ word_bits c w) (ap (word_bits 64) value ∙ first) ∙ append_assoc (word_bits c before) (word_bits d (w / 2 ^ c)) (word_bits c w)
    ∙ ap (λ (l : List Bool). word_bits c before ++ l) (sym second)

pub words-three : (kept o word len last p : ℕ) → (o + len + p < 64) × (kept < 2 ^ o) × (word < 2 ^ len) × (last < 2 ^ p)
    → word_bits (o + len + p) (bit_or (bit_or (kept * 2 ^ len % 2 ^ 64) word * 2 ^ p % 2 ^ 64) last) ≡ word_bits o kept ++ (word_bits len word ++ word_bits p last)
words-three kept o word len last p (n, hk, hw, hl) =
    let two : ℕ = kept * 2 ^ len + word in
    let e : bit_or (kept * 2 ^ len % 2 ^ 64) word ≡ two =
    ap (λ (x : ℕ). bit_or x word) (shl_exact o len 64 hk (omega arith)) ∙ or_shifted kept len word hw in
    let b : two < 2 ^ (o + len) = rw (pow-add 2 o len) (digits_lt hk hw) in
    let value : bit_or (bit_or (kept * 2 ^ len % 2 ^ 64) word * 2 ^ p % 2 ^ 64) last ≡ two * 2 ^ p + last =
    ap (λ (x : ℕ). bit_or (x * 2 ^ p % 2 ^ 64) last) e ∙ ap (λ (x : ℕ). bit_or x last) (shl_exact (o + len) p 64 b (omega arith)) ∙ or_shifted two p last hl in
    rw value
    (words-join (o + len) p two last hl ∙ ap (λ (l : List Bool). l ++ word_bits p last) (words-join o len kept word hw)
    ∙ append_assoc (word_bits o kept) (word_bits len word) (word_bits p last))

-- the first bytes of a word
pub words-top : (n w : ℕ) → n ≤ 8 → word_bits (8 * n) (w / 2 ^ (64 - 8 * n)) ≡ take (8 * n) (word_bits 64 w)
words-top n w h =
    let e : 64 ≡ 8 * n + (64 - 8 * n) = omega arith in
    sym (ap (take (8 * n)) (ap (λ (k : ℕ). word_bits k w) e ∙ words-split (8 * n) (64 - 8 * n) w)
    ∙ take_at (word_bits (8 * n) (w / 2 ^ (64 - 8 * n))) (word_bits (64 - 8 * n) w) (8 * n) (words-length (8 * n) (w / 2 ^ (64 - 8 * n))))

-- ## Reading

pub unpack-zeros : (n : ℕ) → unpack (replicate n 0) ≡ replicate (8 * n) false
unfolding unpack flatten
unpack-zeros zero = refl
unpack-zeros (suc n) =
    let e : 8 + 8 * n ≡ 8 * suc n = omega arith in
    ap₂ (λ (u v : List Bool). u ++ v) (words-zero 8) (unpack-zeros n) ∙ replicate-append-replicate 8 (8 * n) false ∙ ap (λ (k : ℕ). replicate k false) e

pub zeros-bytes : (n : ℕ) → Bytes (replicate n 0)
zeros-bytes zero i = omega arith
zeros-bytes (suc n) zero = omega arith
zeros-bytes (suc n) (suc i) = zeros-bytes n i

-- the first bytes of s, at most eight, and zeros behind them up to eight
module _ (s : List ℕ) (n : ℕ) (e : n ≡ min (length s) 8) where
  -- past them, eight bytes are full or s ends
  zeros-behind : fit (8 * (8 - n)) (drop (8 * n) (unpack s)) ≡ replicate (8 * (8 - n)) false
  unfolding fit
  zeros-behind =
      elim (dec_le 8 (length s)) [
        | yes h ↦
            let none : 8 * (8 - n) ≡ 0 = omega arith in
            ap (λ (k : ℕ). fit k (drop (8 * n) (unpack s))) none ∙ sym (ap (λ (k : ℕ). replicate k false) none)
        | no h ↦
            ap (fit (8 * (8 - n))) (drop_of_length-le (unpack s) {i = 8 * n} (omega (arith, unpack-length s))) ∙ fit-nil (8 * (8 - n))
      ]

  filled-bits : unpack (take n s ++ replicate (8 - n) 0) ≡ fit 64 (unpack s)
  filled-bits =
      let k : 8 * n + 8 * (8 - n) ≡ 64 = omega arith in
      unpack-append (take n s) (replicate (8 - n) 0)
      ∙ ap₂ (λ (u v : List Bool). u ++ v) (unpack-take s n ∙ sym (fit-take (8 * n) (unpack s) (omega (arith, unpack-length s)))) (unpack-zeros (8 - n) ∙ sym zeros-behind)
      ∙ sym (fit-add (8 * n) (8 * (8 - n)) (unpack s)) ∙ ap (λ (j : ℕ). fit j (unpack s)) k

  pub word_filled : Bytes s → {x : List ℕ} → x ≡ take n s → {w : ℕ} → w ≡ from_be_bytes w64 (x ++ drop n (replicate 8 0)) → word_bits 64 w ≡ fit 64 (unpack s)
  word_filled b {x} f {w} q =
      let all : List ℕ = take n s ++ replicate (8 - n) 0 in
      let long : length all ≡ 8 = omega (arith, length-append (take n s) (replicate (8 - n) 0), length-take-le n s (omega arith), length-replicate {A = ℕ} (8 - n) 0) in
      let bytes : Bytes all = bytes-append (take n s) (replicate (8 - n) 0) (bytes_take n s b) (zeros-bytes (8 - n)) in
      be-bits all long bytes (q ∙ ap (from_be_bytes w64) (ap₂ (λ (u v : List ℕ). u ++ v) f (drop-replicate n 8 0))) ∙ filled-bits

-- from byte j on, or from the end
pub rest-of : (s : List ℕ) (j i : ℕ) → i ≡ min j (length s) → take (length s - i) (drop i s) ≡ drop j s
rest-of s j i e =
    take_all (length s - i) (drop i s) (omega (arith, length-drop i s))
    ∙ elim (dec_le j (length s)) [
      | yes h ↦ let same : i ≡ j = omega arith in ap (λ (k : ℕ). drop k s) same
      | no h ↦ drop_of_length-le s {i = i} (omega arith) ∙ sym (drop_of_length-le s {i = j} (omega arith))
    ]

-- eight bytes that are there
pub word_read : (s : List ℕ) (j w : ℕ) → j + 8 ≤ length s → word_bits 64 w ≡ unpack (take 8 (drop j s)) → word_bits 64 w ≡ fit 64 (unpack (drop j s))
word_read s j w h e =
    e ∙ unpack-take (drop j s) 8 ∙ sym (fit-take 64 (unpack (drop j s)) (omega (arith, unpack-length (drop j s), length-drop j s)))
