-- The value of digits, by bytes: the look-ups, and their sum.
use mathlib.Core.Path.{◌≡◌, refl, sym, ap, ap₂, ◌∙◌}
use mathlib.Core.Bool.{Bool, true, false}
use mathlib.Core.List.{List, [], ◌∷◌, ◌++◌}
use Prim.Native.Nat.{ℕ, zero, suc, ◌+◌, ◌-◌, ◌*◌, ◌/◌, ◌%◌, ◌^◌, ◌≤◌, ◌<◌, min}
use native.Mathlib.Omega.{arith}
use native.Mathlib.Decide.{dec_le}
use lib.ListN.{length, get_or, take, drop, replicate, length-take, get_or-append}
use lib.Seq.{take_at, drop_at, get_or-take, get_or-drop, get_or-append-add}
use lib.Pow.{pow_pos, high, shr-shr, shr_mod, ones_lt, ones_split}
use lib.Bits.{bit_and, and_high}
use Rattle.lists.proofs.Lists.{values-at}
use Rattle.bits.specs.Bits.{word_bits}
use Rattle.bits.proofs.Words.{words-length, words-split, words-padded}
use Rattle.fibonacci.specs.Code.{value}
use Rattle.calls.specs.Limits.{max_number}
use Rattle.fibonacci.proofs.Numbers.{value-append}
use Rattle.digit_tables.specs.Leaves.{byte_value, byte_values}
use Rattle.digit_values.specs.Leaves.{Saturated}

-- ## A look-up

pub entry_at : (m c b : ℕ) → c < 6 → b < 256 → get_or (byte_values m) (256 * c + b) 0 ≡ min max_number (value m (8 * c + 1) (word_bits 8 b))
unfolding byte_values byte_value
entry_at m c b h l =
    let i : ℕ = 0 + (256 * c + b) in
    let q : i / 256 ≡ c = omega arith in
    let r : i % 256 ≡ b = omega arith in
    values-at (byte_value m) 0 1536 (256 * c + b) 0 (omega arith) ∙ ap₂ (λ (q r : ℕ). min max_number (value m (8 * q + 1) (word_bits 8 r))) q r

-- ## Sums of look-ups

pub saturated-is : (v r : ℕ) → r ≡ min max_number v → Saturated v r
saturated-is v r e = (λ h. omega arith, λ h. omega arith)

saturated-add : (v u r s : ℕ) → Saturated v r → Saturated u s → Saturated (v + u) (r + s)
saturated-add v u r s a b = (
  λ h. omega (arith, a.0 (omega arith), b.0 (omega arith)),
  λ h.
      elim (dec_le v max_number) [
        | yes i ↦
            elim (dec_le u max_number) [
              | yes j ↦ omega (arith, a.0 i, b.0 j)
              | no j ↦ omega (arith, b.1 (omega arith))
            ]
        | no i ↦ omega (arith, a.1 (omega arith))
      ],
)

-- the high bits of a word, and the others
value-split : (m j a b x : ℕ) → value m j (word_bits (a + b) x) ≡ value m j (word_bits a (x / 2 ^ b)) + value m (j + a) (word_bits b x)
value-split m j a b x =
    ap (value m j) (words-split a b x) ∙ value-append m j (word_bits a (x / 2 ^ b)) (word_bits b x)
    ∙ ap (λ (k : ℕ). value m j (word_bits a (x / 2 ^ b)) + value m (j + k) (word_bits b x)) (words-length a (x / 2 ^ b))

-- digits one after the other in a word
pub saturated-join : (m j a b x k r s : ℕ) → Saturated (value m j (word_bits a (x / 2 ^ (k + b)))) r → Saturated (value m (j + a) (word_bits b (x / 2 ^ k))) s
    → Saturated (value m j (word_bits (a + b) (x / 2 ^ k))) (r + s)
saturated-join m j a b x k r s p q =
    rw (value-split m j a b (x / 2 ^ k), shr-shr x k b)
    (saturated-add (value m j (word_bits a (x / 2 ^ (k + b)))) (value m (j + a) (word_bits b (x / 2 ^ k))) r s p q)

-- a byte more
pub saturated-byte : (m j a x k r s : ℕ) → Saturated (value m j (word_bits a (x / 2 ^ (k + 8)))) r
    → s ≡ min max_number (value m (j + a) (word_bits 8 (x / 2 ^ k)))
    → Saturated (value m j (word_bits (a + 8) (x / 2 ^ k))) (r + s)
saturated-byte m j a x k r s p e = saturated-join m j a 8 x k r s p (saturated-is _ s e)

-- .. of the first six of a word
pub saturated-more : (m x c r s : ℕ) → c < 6 → Saturated (value m 1 (word_bits (8 * c) (x / 2 ^ (64 - 8 * c)))) r
    → s ≡ min max_number (value m (8 * c + 1) (word_bits 8 (x / 2 ^ (56 - 8 * c))))
    → Saturated (value m 1 (word_bits (8 * (c + 1)) (x / 2 ^ (64 - 8 * (c + 1))))) (r + s)
saturated-more m x c r s h p e =
    let k : ℕ = 56 - 8 * c in
    let before : 64 - 8 * c ≡ k + 8 = omega arith in
    let after : 64 - 8 * (c + 1) ≡ k = omega arith in
    let many : 8 * (c + 1) ≡ 8 * c + 8 = omega arith in
    let place : 8 * c + 1 ≡ 1 + 8 * c = omega arith in
    rw (after, many) (saturated-byte m 1 (8 * c) x k r s (rw before at p) (rw place at e))

-- ## The first bits of a word

-- zeros are worth nothing
value_none : (m j : ℕ) (b : List Bool) → ((i : ℕ) → get_or b i false ≡ false) → value m j b ≡ 0
unfolding value
value_none m j [] h = refl
value_none m j (false ∷ b) h = value_none m (suc j) b (λ i. h (suc i))
value_none m j (true ∷ b) h = let z : ◌≡◌ {A = ℕ} 0 1 = cc (h 0) in absurd (omega arith)

zeros-at : (n i : ℕ) → get_or (replicate n false) i false ≡ false
zeros-at zero i = refl
zeros-at (suc n) zero = refl
zeros-at (suc n) (suc i) = zeros-at n i

-- the mask
pub masked_is : (w len : ℕ) → w < 2 ^ 64 → len ≤ 64 → bit_and w (2 ^ 64 - 1 - (2 ^ 64 - 1) / 2 ^ len) ≡ w / 2 ^ (64 - len) * 2 ^ (64 - len)
masked_is w len h l =
    let k : ℕ = 64 - len in
    let e : k + len ≡ 64 = omega arith in
    let f : len + k ≡ 64 = omega arith in
    let ones : (2 ^ 64 - 1) / 2 ^ len ≡ 2 ^ k - 1 =
    ap (λ (n : ℕ). (2 ^ n - 1) / 2 ^ len) (sym e) ∙ ap (λ (y : ℕ). y / 2 ^ len) (ones_split k len) ∙ high (2 ^ k - 1) len (ones_lt len) in
    let mask : 2 ^ 64 - 1 - (2 ^ 64 - 1) / 2 ^ len ≡ 2 ^ (len + k) - 2 ^ k =
    ap (λ (y : ℕ). 2 ^ 64 - 1 - y) ones ∙ omega (arith, pow_pos k) ∙ ap (λ (n : ℕ). 2 ^ n - 2 ^ k) (sym f) in
    ap (bit_and w) mask ∙ and_high w len k ∙ ap (λ (y : ℕ). y * 2 ^ k) (shr_mod {n = w} len k (rw f h))

module _ (w len : ℕ) (short : len ≤ 64) where
  abbrev cut : ℕ
  cut = w / 2 ^ (64 - len) * 2 ^ (64 - len)

  cut-bits : word_bits 64 cut ≡ take len (word_bits 64 w) ++ replicate (64 - len) false
  cut-bits =
      let k : ℕ = 64 - len in
      let e : 64 ≡ len + k = omega arith in
      let first : take len (word_bits 64 w) ≡ word_bits len (w / 2 ^ k) =
      ap (λ (n : ℕ). take len (word_bits n w)) e ∙ ap (take len) (words-split len k w)
      ∙ take_at (word_bits len (w / 2 ^ k)) (word_bits k w) len (words-length len (w / 2 ^ k)) in
      ap (λ (n : ℕ). word_bits n cut) e ∙ words-padded len k (w / 2 ^ k) ∙ ap (λ (l : List Bool). l ++ replicate k false) (sym first)

  taken : length (take len (word_bits 64 w)) ≡ len
  taken = omega (arith, length-take len (word_bits 64 w), words-length 64 w)

  -- behind the first t bits there are zeros, where the last of the len is one
  module _ (t : ℕ) (within : t ≤ 64) (most : len ≤ t + 1) (last : 1 ≤ len → get_or (word_bits 64 w) (len - 1) false ≡ false) where
    zero-at : (i : ℕ) → get_or (take len (word_bits 64 w) ++ replicate (64 - len) false) (t + i) false ≡ false
    zero-at i =
        let b : List Bool = take len (word_bits 64 w) in
        elim (dec_le len (t + i)) [
          | yes h ↦
              let e : t + i ≡ length b + (t + i - len) = omega (arith, taken) in
              ap (λ (k : ℕ). get_or (b ++ replicate (64 - len) false) k false) e
              ∙ get_or-append-add b (replicate (64 - len) false) (t + i - len) false ∙ zeros-at (64 - len) (t + i - len)
          | no h ↦
              let e : t + i ≡ len - 1 = omega arith in
              get_or-append b (replicate (64 - len) false) false (t + i) (omega (arith, taken))
              ∙ get_or-take len (word_bits 64 w) (t + i) false (omega arith) ∙ ap (λ (k : ℕ). get_or (word_bits 64 w) k false) e ∙ last (omega arith)
        ]

    behind : (i : ℕ) → get_or (word_bits (64 - t) cut) i false ≡ false
    behind i =
        let e : 64 ≡ t + (64 - t) = omega arith in
        let rest : drop t (word_bits 64 cut) ≡ word_bits (64 - t) cut =
        ap (λ (n : ℕ). drop t (word_bits n cut)) e ∙ ap (drop t) (words-split t (64 - t) cut)
        ∙ drop_at (word_bits t (cut / 2 ^ (64 - t))) (word_bits (64 - t) cut) t (words-length t (cut / 2 ^ (64 - t))) in
        ap (λ (l : List Bool). get_or l i false) (sym rest) ∙ get_or-drop t (word_bits 64 cut) i false
        ∙ ap (λ (l : List Bool). get_or l (t + i) false) cut-bits ∙ zero-at i

    -- so the first t bits have the whole value
    value-first : (m : ℕ) → value m 1 (take len (word_bits 64 w)) ≡ value m 1 (word_bits t (cut / 2 ^ (64 - t)))
    value-first m =
        let e : 64 ≡ t + (64 - t) = omega arith in
        let b : List Bool = take len (word_bits 64 w) in
        let z : List Bool = replicate (64 - len) false in
        let whole : value m 1 (word_bits 64 cut) ≡ value m 1 b + value m (1 + length b) z = ap (value m 1) cut-bits ∙ value-append m 1 b z in
        let parts : value m 1 (word_bits 64 cut) ≡ value m 1 (word_bits t (cut / 2 ^ (64 - t))) + value m (1 + t) (word_bits (64 - t) cut) =
        ap (λ (n : ℕ). value m 1 (word_bits n cut)) e ∙ value-split m 1 t (64 - t) cut in
        omega (arith, value_none m (1 + length b) z (zeros-at (64 - len)), value_none m (1 + t) (word_bits (64 - t) cut) behind)

    pub saturated-first : (m x r : ℕ) → x ≡ w / 2 ^ (64 - len) * 2 ^ (64 - len) → Saturated (value m 1 (word_bits t (x / 2 ^ (64 - t)))) r
        → Saturated (value m 1 (take len (word_bits 64 w))) r
    saturated-first m x r e p = rw (value-first m, ← e) p
