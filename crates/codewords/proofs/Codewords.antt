-- The codeword of a number, as it is made: how many bits stand before its last ones, and its word.
use mathlib.Core.Path.{◌≡◌, refl, sym, ap, ap₂, subst, ◌∙◌}
use mathlib.Core.Bool.{Bool, true, false, ◌&&◌}
use mathlib.Core.List.{List, [], ◌∷◌, ◌++◌, append-nil}
use Prim.Native.Nat.{ℕ, zero, suc, ◌+◌, ◌-◌, ◌*◌, ◌/◌, ◌%◌, ◌^◌, ◌≤◌, ◌<◌, min}
use native.Mathlib.Omega.{arith}
use native.Mathlib.Nat.{add-zero, zero-add, zero-mul, suc-add, two-pow-succ}
use native.Mathlib.Decide.{dec_le}
use lib.Arith.{digits_lt}
use lib.Dec.{leb}
use lib.ListN.{length, get_or, replicate, get_or-replicate}
use lib.Pow.{pow_pos, pow_mono, pow-add, shl_exact, shl-shr, ones_lt}
use borrow.Author.Tests.{le-leb, lt-leb, leb-true}
use Rattle.lists.specs.Lists.{values_from}
use Rattle.lists.proofs.Lists.{values-at}
use Rattle.bits.specs.Bits.{bit_value, word_bits, word_of}
use Rattle.bits.proofs.Words.{words-cons, words-join, words-zero}
use Rattle.bits.specs.Leaves.{fit}
use Rattle.bits.proofs.Fit.{fit-long}
use Rattle.bits.proofs.Packing.{bits-of-word, word_below}
use Rattle.fibonacci.specs.Code.{past, F, ones, first, size, digits, codeword}
use Rattle.calls.proofs.Checks.{both}
use Rattle.calls.specs.Limits.{max_number, Order}
use Rattle.fibonacci.specs.Leaves.{number_or_zero}
use Rattle.fibonacci.proofs.Numeration.{sum_down, F-suc, sum_down-suc, sum_down-zero, sum_down-none, digits-big, digits-small, digits_append, digits-length, F-rises, F-pos}
use Rattle.fibonacci.proofs.Numbers.{first-suc, first-rises, first_pos, F-first, codeword-size}
use Rattle.fibonacci.proofs.Lookup.{each-order, codeword-bits, number-kept, number-zero, number-none, number-some}
use Rattle.codewords.specs.Leaves.{rate, low_count, low_word, low_digits, HighDigits}

-- ## The bits before the last ones

-- a number of b + 1 bits has at least as many digits as the guess says, and at most three more
near : ℕ → ℕ → Bool
near m b = let d : ℕ = b * rate m / 8 in leb (first m d) (2 ^ b) && (leb (2 ^ suc b) (first m (d + 4)) && leb d 42)

near-all : values_from (λ m. values_from (near m) 0 32) 2 5 ≡ replicate 5 (replicate 32 true)
unfolding near rate first F past
near-all = refl

near-at : (m b : ℕ) → Order m → b < 32 → near m b ≡ true
near-at m b o h =
    let k : 2 + (m - 2) ≡ m = omega arith in
    let row : values_from (near m) 0 32 ≡ replicate 32 true =
    ap (λ (m : ℕ). values_from (near m) 0 32) (sym k) ∙ sym (values-at (λ m. values_from (near m) 0 32) 2 5 (m - 2) [] (omega arith))
    ∙ ap (λ (l : List (List Bool)). get_or l (m - 2) []) near-all ∙ get_or-replicate 5 (m - 2) (replicate 32 true) [] (omega arith) in
    ap (near m) (sym (zero-add b)) ∙ sym (values-at (near m) 0 32 b true h) ∙ ap (λ (l : List Bool). get_or l b true) row
    ∙ get_or-replicate 32 b true true h

-- so a guess by the length of n in bits is near
pub guess-near : (m n b : ℕ) → Order m → n ≤ max_number → 2 ^ b ≤ n → n < 2 * 2 ^ b
    → (first m (b * rate m / 8) ≤ n) × (n < first m (b * rate m / 8 + 4)) × (b * rate m / 8 ≤ 42)
unfolding near
guess-near m n b o l low high =
    let small : b < 32 = elim (dec_le 32 b) [ yes g ↦ absurd (omega (arith, pow_mono g)) | no g ↦ omega arith ] in
    let d : ℕ = b * rate m / 8 in
    let t = both (leb (first m d) (2 ^ b)) (leb (2 ^ suc b) (first m (d + 4)) && leb d 42) (near-at m b o small) in
    let u = both (leb (2 ^ suc b) (first m (d + 4))) (leb d 42) t.1 in
    (omega (arith, leb-true (first m d) (2 ^ b) t.0), omega (arith, two-pow-succ b, leb-true (2 ^ suc b) (first m (d + 4)) u.0), leb-true d 42 u.1)

-- a look-up tells whether a first number is reached
pub first_reached : (m d n : ℕ) → (number_or_zero (first m d) ≡ 0 → ⊥) → number_or_zero (first m d) ≤ n → leb (first m d) n ≡ true
first_reached m d n z l = le-leb _ _ (omega (arith, number-kept _ (number-some _ z)))

pub first_none : (m d n : ℕ) → n ≤ max_number → number_or_zero (first m d) ≡ 0 → leb (first m d) n ≡ false
first_none m d n l z = lt-leb _ _ (omega (arith, number-none _ (first_pos m d) z))

pub first_above : (m d n : ℕ) → n < number_or_zero (first m d) → leb (first m d) n ≡ false
first_above m d n h =
    elim (dec_le (first m d) max_number) [
      | yes b ↦ lt-leb _ _ (omega (arith, number-kept _ b))
      | no b ↦ absurd (omega (arith, number-zero (first m d) (omega arith)))
    ]

-- and the guess, with one for each of the next three that is reached, is the length
pub body_is : (m n d : ℕ) → Order m → 1 ≤ n → first m d ≤ n → n < first m (d + 4)
    → d + bit_value (leb (first m (d + 1)) n) + bit_value (leb (first m (d + 2)) n) + bit_value (leb (first m (d + 3)) n) + m ≡ length (codeword m n)
body_is m n d o p a b =
    let s : ℕ = size m n n 0 in
    let w = codeword-size m n (omega arith) p in
    let low : d ≤ s = elim (dec_le d s) [ yes l ↦ l | no l ↦ absurd (omega (arith, first-rises m {j = suc s} {k = d} (omega arith))) ] in
    let high : s < d + 4 = elim (dec_le (d + 4) s) [ yes l ↦ absurd (omega (arith, first-rises m l)) | no l ↦ omega arith ] in
    let one : (k : ℕ) → bit_value (leb (first m k) n) ≡ min 1 (suc s - k) =
    λ k.
    elim (dec_le k s) [
      | yes l ↦ let r : first m k ≤ n = omega (arith, first-rises m l) in rw (le-leb _ _ r) (omega arith)
      | no l ↦ let r : n < first m k = omega (arith, first-rises m {j = suc s} {k = k} (omega arith)) in rw (lt-leb _ _ r) (omega arith)
    ] in
    omega (arith, one (d + 1), one (d + 2), one (d + 3), codeword-bits m n)

-- ## The digits above the lowest

-- a shift of a bit in a word of 64 bits
pub shifted-bit : (c k : ℕ) → c ≤ 1 → k < 64 → c * 2 ^ k % 2 ^ 64 ≡ c * 2 ^ k
shifted-bit c k b h = shl_exact {a = c} 1 k 64 (omega arith) (omega arith)

pub shifted_one : (k : ℕ) → k < 64 → 1 * 2 ^ k % 2 ^ 64 ≡ 2 ^ k
shifted_one k h = shifted-bit 1 k (omega arith) h ∙ omega arith

word_ones : (m : ℕ) → word_bits m (2 ^ m - 1) ≡ ones m
word_ones zero = words-zero 0
word_ones (suc m) =
    let e : 2 ^ suc m - 1 ≡ 1 * 2 ^ m + (2 ^ m - 1) = omega (arith, two-pow-succ m, pow_pos m) in
    ap (word_bits (suc m)) e ∙ words-cons true m (2 ^ m - 1) (ones_lt m) ∙ ap (λ (l : List Bool). true ∷ l) (word_ones m)

-- no position value is more than twice the one before it
sum_down-more : (m n i : ℕ) → sum_down m n i ≤ sum_down m n (suc i)
sum_down-more m n zero = omega (arith, sum_down-none m n)
sum_down-more m zero (suc i) = omega (arith, sum_down-zero m (suc i) (omega arith), sum_down-zero m (suc (suc i)) (omega arith))
sum_down-more m (suc n) (suc i) = omega (arith, sum_down-suc m n i, sum_down-suc m n (suc i), sum_down-more m n i)

F-double : (m n : ℕ) → 1 ≤ m → F m (suc n) ≤ 2 * F m n
F-double zero n p = absurd (omega arith)
F-double (suc m) zero p = omega (arith, F-suc (suc m) 0, sum_down-zero (suc m) (suc m) (omega arith), F-pos (suc m) 0 p)
F-double (suc m) (suc n) p = omega (arith, F-suc (suc m) (suc n), sum_down-suc (suc m) n m, F-suc (suc m) n, sum_down-more (suc m) n m)

module _ (m n d : ℕ) (o : Order m) (p : 1 ≤ n) (l : n ≤ max_number) (long : d + m ≡ length (codeword m n)) where
  is : d ≡ size m n n 0
  is = omega (arith, long, codeword-bits m n)

  -- what is looked up is in the tables
  first-legal : first m d ≤ n
  first-legal = rw is (codeword-size m n (omega arith) p).0

  pub position-legal : (j : ℕ) → j ≤ d → F m j ≤ max_number
  position-legal j h = omega (arith, first-legal, F-first m d, F-rises m (omega arith) h)

  -- at first all the digits are left
  pub high-start : (x : ℕ) → x ≡ number_or_zero (first m d) → (x ≤ n) × HighDigits m n d d (n - x) (1 * 2 ^ m % 2 ^ 64 - 1)
  unfolding codeword
  high-start x q =
      let f : x ≡ first m d = q ∙ number-kept (first m d) (omega (arith, first-legal)) in
      let z : m + (d - d) ≡ m = omega arith in
      let below : n < first m (suc d) = rw is (codeword-size m n (omega arith) p).1 in
      rw (f, z, shifted_one m (omega arith)) (
        first-legal,
        (
          ap (digits m d (n - first m d)) (word_ones m) ∙ ap (λ (k : ℕ). digits m k (n - first m k) (ones m)) is,
          ones_lt m,
          omega (arith, first-legal, first-suc m d, F-rises m (omega arith) {j = d} {k = suc d} (omega arith)),
        ),
      )

-- a digit more
module _ (m n d j left w f : ℕ) (p : 1 ≤ m) (g : j < d) (q : f ≡ F m (suc j)) (b : HighDigits m n d (suc j) left w) where
  longer : m + (d - j) ≡ suc (m + (d - suc j))
  longer = omega arith

  high_one : f ≤ left → HighDigits m n d j (left - 1 * f) (w + 1 * 2 ^ (m + (d - suc j)))
  high_one big =
      let v : w + 1 * 2 ^ (m + (d - suc j)) ≡ 1 * 2 ^ (m + (d - suc j)) + w = omega arith in
      let r : left - 1 * f ≡ left - F m (suc j) = omega (arith, q) in
      rw (longer, v, r, words-cons true (m + (d - suc j)) w b.1) (
        sym (digits-big m j left (word_bits (m + (d - suc j)) w) (omega (arith, q))) ∙ b.0,
        omega (arith, two-pow-succ (m + (d - suc j)), b.1),
        omega (arith, q, F-double m (suc j) p, b.2),
      )

  high_zero : left < f → HighDigits m n d j (left - 0 * f) (w + 0 * 2 ^ (m + (d - suc j)))
  high_zero small =
      let v : w + 0 * 2 ^ (m + (d - suc j)) ≡ 0 * 2 ^ (m + (d - suc j)) + w = omega arith in
      let r : left - 0 * f ≡ left = omega arith in
      rw (longer, v, r, words-cons false (m + (d - suc j)) w b.1) (
        sym (digits-small m j left (word_bits (m + (d - suc j)) w) (omega (arith, q))) ∙ b.0,
        omega (arith, two-pow-succ (m + (d - suc j)), b.1),
        omega (arith, q),
      )

  high_next : (c k : ℕ) → m + d ≤ 47 → k ≡ m + (d - suc j) → c ≡ bit_value (leb f left) → c ≤ 1
      → (c * f ≤ left) × HighDigits m n d j (left - c * f) (w + c * 2 ^ k % 2 ^ 64)
  high_next c k short e bit few =
      rw (e, shifted-bit c (m + (d - suc j)) few (omega arith))
      (elim (dec_le f left) [
        | yes big ↦ let one : c ≡ 1 = bit ∙ ap bit_value (le-leb f left big) in rw one (omega arith, high_one big)
        | no small ↦ let zero : c ≡ 0 = bit ∙ ap bit_value (lt-leb f left (omega arith)) in rw zero (omega arith, high_zero (omega arith))
      ])

-- .. where what is left comes with 2^32 added
pub high-more : (m n d j above w f c k : ℕ) → 1 ≤ m → 1 ≤ j → j ≤ d → m + d ≤ 47 → k + j ≡ m + d → 2 ^ 32 ≤ above → f ≡ F m (j - 1 + 1)
    → HighDigits m n d j (above - 2 ^ 32) w → c ≡ bit_value (leb f (above - 2 ^ 32)) → c ≤ 1
    → (2 ^ 32 ≤ above - c * f) × HighDigits m n d (j - 1) (above - c * f - 2 ^ 32) (w + c * 2 ^ k % 2 ^ 64)
high-more m n d j above w f c k p i g short s least q b bit few =
    let back : j ≡ suc (j - 1) = omega arith in
    let t = high_next m n d (j - 1) (above - 2 ^ 32) w f p (omega arith) (q ∙ ap (F m) (omega arith))
    (subst (λ (i : ℕ). HighDigits m n d i (above - 2 ^ 32) w) back b) c k short (omega arith) bit few in
    let same : above - c * f - 2 ^ 32 ≡ above - 2 ^ 32 - c * f = omega arith in
    (omega (arith, t.0), rw same t.1)

-- ## The lowest digits

-- the bits of a word are those that made it
word_back : (b : List Bool) → word_bits (length b) (word_of (length b) b) ≡ b
word_back b = bits-of-word (length b) b ∙ ap (λ (k : ℕ). fit k b) (sym (add-zero (length b))) ∙ fit-long b 0 ∙ append-nil b

-- zeros at the end of a word shift it
zeros-word : (k : ℕ) → word_of k (replicate k false) ≡ 0
unfolding word_of
zeros-word zero = refl
zeros-word (suc k) = omega (arith, zeros-word k)

word-shifted : (b : List Bool) (k : ℕ) → word_of (length b + k) (b ++ replicate k false) ≡ word_of (length b) b * 2 ^ k
unfolding word_of
word-shifted [] k = ap (λ (i : ℕ). word_of i (replicate k false)) (zero-add k) ∙ zeros-word k ∙ sym (zero-mul (2 ^ k))
word-shifted (a ∷ b) k =
    ap (λ (i : ℕ). word_of i (a ∷ (b ++ replicate k false))) (suc-add (length b) k)
    ∙ rw (pow-add 2 (length b) k, word-shifted b k) (omega arith)

-- a value that needs no digit above j has zeros there
digits-zeros : (m j k i r : ℕ) → 1 ≤ m → r < F m (suc j) → digits m (j + k) r (replicate i false) ≡ digits m j r (replicate (k + i) false)
digits-zeros m j zero i r p h = ap₂ (λ (s z : ℕ). digits m s r (replicate z false)) (add-zero j) (sym (zero-add i))
digits-zeros m j (suc k) i r p h =
    let s : j + suc k ≡ suc (j + k) = omega arith in
    let z : k + suc i ≡ suc k + i = omega arith in
    ap (λ (s : ℕ). digits m s r (replicate i false)) s
    ∙ digits-small m (j + k) r (replicate i false) (omega (arith, F-rises m p {j = suc j} {k = suc (j + k)} (omega arith)))
    ∙ digits-zeros m j k (suc i) r p h ∙ ap (λ (z : ℕ). digits m j r (replicate z false)) z

-- so its low word is that of the digits up to j, shifted
low-shifted : (m j k r : ℕ) → 1 ≤ m → r < F m (suc j) → low_word m (j + k) r ≡ low_word m j r * 2 ^ k
unfolding low_word
low-shifted m j k r p h =
    let b : List Bool = digits m j r [] in
    let long : length b ≡ j = digits-length m j r [] ∙ add-zero j in
    let e : digits m (j + k) r [] ≡ b ++ replicate k false =
    digits-zeros m j k 0 r p h ∙ ap (λ (z : ℕ). digits m j r (replicate z false)) (add-zero k) ∙ digits_append m j r [] (replicate k false) in
    ap (word_of (j + k)) e ∙ ap (λ (i : ℕ). word_of (i + k) (b ++ replicate k false)) (sym long) ∙ word-shifted b k
    ∙ ap (λ (i : ℕ). word_of i b * 2 ^ k) long

-- and it can be shifted up before it is shifted down
low-moved : (m j k u r : ℕ) → 1 ≤ m → r < F m (suc j) → low_word m (j + k) r * 2 ^ (u + j) ≡ low_word m j r * 2 ^ u * 2 ^ (j + k)
low-moved m j k u r p h = rw (low-shifted m j k r p h, pow-add 2 u j, pow-add 2 j k) (omega arith)

low_bits : (m j r : ℕ) → word_bits j (low_word m j r) ≡ digits m j r []
unfolding low_word
low_bits m j r =
    let b : List Bool = digits m j r [] in
    let long : length b ≡ j = digits-length m j r [] ∙ add-zero j in
    ap (λ (i : ℕ). word_bits i (word_of i b)) (sym long) ∙ word_back b

low_below : (m t r : ℕ) → low_word m t r < 2 ^ t
unfolding low_word
low_below m t r = word_below t (digits m t r [])

-- ## The table of low digits

pub low-row : (m : ℕ) (z : List ℕ) → Order m → get_or (values_from low_digits 2 5) (m - 2) z ≡ low_digits m
low-row m z h =
    let e : 2 + (m - 2) ≡ m = omega arith in
    values-at low_digits 2 5 (m - 2) z (omega arith) ∙ ap low_digits e

pub low-at : (m x : ℕ) → x < 64 → get_or (low_digits m) x 0 ≡ low_word m (low_count m) x
unfolding low_digits
low-at m x h = values-at (λ x. low_word m (low_count m) x) 0 64 x 0 h ∙ ap (low_word m (low_count m)) (zero-add x)

-- what is left for the low digits is in the table
pub low-within : (m j x : ℕ) → Order m → j ≤ low_count m → x < F m (suc j) → x < 64
unfolding low_count F past
low-within m j x o h l =
    let t : ℕ = low_count m in
    let end : F m (suc t) ≤ 64 = leb-true _ _ (each-order (λ m. leb (F m (suc (low_count m))) 64) true refl m o) in
    omega (arith, end, F-rises m (omega arith) {j = suc j} {k = suc t} (omega arith))

-- ## The word

-- the low digits, shifted up and then down again, end up before those above them
module _ (m n d t left w : ℕ) (o : Order m) (long : d + m ≤ 47) (few : t ≤ 8) (b : HighDigits m n d (min d t) left w) where
  stop : ℕ
  stop = min d t

  below : ℕ
  below = m + (d - stop)

  moved : low_word m t left * 2 ^ (d + m) % 2 ^ 64 / 2 ^ t ≡ low_word m stop left * 2 ^ below
  unfolding stop below
  moved =
      let k : stop + (t - stop) ≡ t = omega arith in
      let u : below + stop ≡ d + m = omega arith in
      let e : low_word m t left * 2 ^ (d + m) ≡ low_word m stop left * 2 ^ below * 2 ^ t =
      sym (ap₂ (λ (i s : ℕ). low_word m i left * 2 ^ s) k u) ∙ low-moved m stop (t - stop) below left (omega arith) b.2
      ∙ ap (λ (i : ℕ). low_word m stop left * 2 ^ below * 2 ^ i) k in
      ap (λ (v : ℕ). v / 2 ^ t) (shl_exact {a = low_word m t left} t (d + m) 64 (low_below m t left) (omega arith) ∙ e)
      ∙ shl-shr (low_word m stop left * 2 ^ below) t

  pub high_end : (x : ℕ) → x ≡ low_word m t left
      → (word_bits (d + m) (w + x * 2 ^ (d + m) % 2 ^ 64 / 2 ^ t) ≡ codeword m n) × (w + x * 2 ^ (d + m) % 2 ^ 64 / 2 ^ t < 2 ^ (d + m))
  unfolding stop below
  high_end x e =
      let low : ℕ = low_word m stop left in
      let u : d + m ≡ stop + below = omega arith in
      let v : w + low * 2 ^ below ≡ low * 2 ^ below + w = omega arith in
      rw (e, moved, u, v) (
        words-join stop below low w b.1 ∙ ap (λ (l : List Bool). l ++ word_bits below w) (low_bits m stop left)
            ∙ sym (digits_append m stop left [] (word_bits below w)) ∙ b.0,
        rw (pow-add 2 stop below) (digits_lt (low_below m stop left) b.1),
      )

-- so it is with what is looked up
module _ (m n d left w : ℕ) (o : Order m) (b : HighDigits m n d (min d (low_count m)) left w) where
  pub within : left < 64
  within = low-within m (min d (low_count m)) left o (omega arith) b.2

  pub high_looked_up : (t len x : ℕ) → t ≡ low_count m → t ≤ 8 → len ≡ d + m → len ≤ 47 → x ≡ get_or (low_digits m) left 0
      → (word_bits len (w + x * 2 ^ len % 2 ^ 64 / 2 ^ t) ≡ codeword m n) × (w + x * 2 ^ len % 2 ^ 64 / 2 ^ t < 2 ^ len)
  high_looked_up t len x q few l short e =
      rw (q, l) (high_end m n d (low_count m) left w o (omega arith) (omega arith) b x (e ∙ low-at m left within))
