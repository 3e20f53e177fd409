-- The bits of a word: shifts, masks, and two words one after the other. Every law is for any width.
use mathlib.Core.Path.{◌≡◌, refl, sym, ap, ap₂, ◌∙◌}
use mathlib.Core.Bool.{Bool, true, false, not, ◌&&◌, ◌||◌, or-true, or-false, and-true, and-false}
use mathlib.Core.List.{List, [], ◌∷◌, ◌++◌}
use Prim.Native.Nat.{ℕ, zero, suc, ◌+◌, ◌-◌, ◌*◌, ◌/◌, ◌%◌, ◌^◌, ◌≤◌, ◌<◌, min, max}
use native.Mathlib.Omega.{arith}
use native.Mathlib.Nat.{add-zero, zero-add, suc-add, add_comm, zero-div, two-pow-succ}
use lib.ListN.{length, get_or, replicate, set, length-set}
use lib.Seq.{ext_get_or, get_or-set_same, get_or-set_other, set-set}
use lib.Pow.{high, low, field, mod-mod-pow, shr-shr, pow_pos, pow-lt}
use lib.Bits.{bit_and, bit_or, and_mask, and_shr, or_shr, and_step, or_step, or_zero_r}
use Rattle.std.specs.Int.{from_bool}
use Rattle.std.proofs.lemmas.Nat.{one_shl}
use native.Mathlib.Decide.{ℕ_discrete}
use lib.Dec.{eqb, eqb-suc-suc}
use borrow.Author.Tests.{eq-eqb, ne_eqb}
use Rattle.bits.specs.Bits.{bit_of, word_bits, bit_value}

-- ## One bit

-- a shifted and masked word
pub bit_masked : (x k : ℕ) → eqb (bit_and (x / 2 ^ k) 1) 1 ≡ bit_of x k
unfolding bit_of
bit_masked x k = ap (λ (y : ℕ). eqb y 1) (and_mask (x / 2 ^ k) 1)

-- a shifted word
pub bit-shr : (x k j : ℕ) → bit_of (x / 2 ^ k) j ≡ bit_of x (k + j)
unfolding bit_of
bit-shr x k j = ap (λ (y : ℕ). eqb (y % 2) 1) (shr-shr x k j)

-- a low bit of a remainder
pub bit-mod : (x b j : ℕ) → j < b → bit_of (x % 2 ^ b) j ≡ bit_of x j
bit-mod x b j h =
    let e : b - suc j + 1 + j ≡ b = omega arith in
    ap (λ (n : ℕ). bit_of (x % 2 ^ n) j) (sym e) ∙ up (b - suc j)
  where
    up : (d : ℕ) → bit_of (x % 2 ^ (d + 1 + j)) j ≡ bit_of x j
    up d = unfold bit_of in ap (λ (y : ℕ). eqb y 1) (ap (λ (y : ℕ). y % 2) (field x (d + 1) j) ∙ mod-mod-pow (x / 2 ^ j) d 1)

-- a bit of the half
bit-half : (x k : ℕ) → bit_of x (suc k) ≡ bit_of (x / 2) k
bit-half x k = ap (bit_of x) (omega arith) ∙ sym (bit-shr x 1 k)

pub bit-zero : (k : ℕ) → bit_of 0 k ≡ false
unfolding bit_of
bit-zero k = ap (λ (y : ℕ). eqb (y % 2) 1) (zero-div (2 ^ k))

-- the only one of a power of two
pub bit-pow : (p k : ℕ) → bit_of (2 ^ p) k ≡ eqb p k
unfolding bit_of
bit-pow zero zero = refl
bit-pow zero (suc k) = bit-half 1 k ∙ bit-zero k ∙ sym (ne_eqb 0 (suc k) (omega arith))
bit-pow (suc p) zero = ne_eqb (2 ^ suc p / 1 % 2) 1 (omega (arith, two-pow-succ p)) ∙ sym (ne_eqb (suc p) 0 (omega arith))
bit-pow (suc p) (suc k) =
    let half : 2 ^ suc p / 2 ≡ 2 ^ p = omega (arith, two-pow-succ p) in
    bit-half (2 ^ suc p) k ∙ ap (λ (y : ℕ). bit_of y k) half ∙ bit-pow p k ∙ sym (eqb-suc-suc p k)

-- a digit is 0 or 1: what holds of both holds of it
pub digit : (P : ℕ → Type 0) → P 0 → P 1 → (x : ℕ) → P (x % 2)
digit P a b x = go (x % 2) (omega arith)
  where
    go : (d : ℕ) → d < 2 → P d
    go zero h = a
    go (suc zero) h = b
    go (suc (suc d)) h = absurd (omega arith)

pub bit-value : (x k : ℕ) → bit_value (bit_of x k) ≡ x / 2 ^ k % 2
unfolding bit_of
bit-value x k = digit (λ d. bit_value (eqb d 1) ≡ d) refl refl (x / 2 ^ k)

-- the complement of a word
pub bit_not : (n k x : ℕ) → k < n → x < 2 ^ n → bit_of (2 ^ n - 1 - x) k ≡ not (bit_of x k)
unfolding bit_of
bit_not zero k x h b = absurd (omega arith)
bit_not (suc n) zero x h b =
    let odd : (2 ^ suc n - 1 - x) / 1 % 2 ≡ 1 - x / 1 % 2 = omega (arith, two-pow-succ n) in
    ap (λ (d : ℕ). eqb d 1) odd ∙ digit (λ d. eqb (1 - d) 1 ≡ not (eqb d 1)) refl refl (x / 1)
bit_not (suc n) (suc k) x h b =
    let half : (2 ^ suc n - 1 - x) / 2 ≡ 2 ^ n - 1 - x / 2 = omega (arith, two-pow-succ n) in
    bit-half (2 ^ suc n - 1 - x) k ∙ ap (λ (y : ℕ). bit_of y k) half
    ∙ bit_not n k (x / 2) (omega arith) (omega (arith, two-pow-succ n)) ∙ ap not (sym (bit-half x k))

-- ## Two words, bit by bit

-- an operation that goes digit by digit, as f does on two digits
module _ (op f : ℕ → ℕ → ℕ) (g : Bool → Bool → Bool)
    (shr : (x y k : ℕ) → op x y / 2 ^ k ≡ op (x / 2 ^ k) (y / 2 ^ k)) (step : (x y : ℕ) → op x y % 2 ≡ f (x % 2) (y % 2)) where
  bit-op : ((a b : ℕ) → (a < 2) → (b < 2) → eqb (f a b) 1 ≡ g (eqb a 1) (eqb b 1)) → (x y k : ℕ) → bit_of (op x y) k ≡ g (bit_of x k) (bit_of y k)
  unfolding bit_of
  bit-op table x y k =
      ap (λ (d : ℕ). eqb (d % 2) 1) (shr x y k) ∙ ap (λ (d : ℕ). eqb d 1) (step (x / 2 ^ k) (y / 2 ^ k))
      ∙ table (x / 2 ^ k % 2) (y / 2 ^ k % 2) (omega arith) (omega arith)

-- what two digits do, by the four cases
module _ (f : ℕ → ℕ → ℕ) (g : Bool → Bool → Bool) where
  four : eqb (f 0 0) 1 ≡ g false false → eqb (f 0 1) 1 ≡ g false true → eqb (f 1 0) 1 ≡ g true false → eqb (f 1 1) 1 ≡ g true true
      → (a b : ℕ) → a < 2 → b < 2 → eqb (f a b) 1 ≡ g (eqb a 1) (eqb b 1)
  four p q r s zero zero h i = p
  four p q r s zero (suc zero) h i = q
  four p q r s (suc zero) zero h i = r
  four p q r s (suc zero) (suc zero) h i = s
  four p q r s (suc (suc a)) b h i = absurd (omega arith)
  four p q r s zero (suc (suc b)) h i = absurd (omega arith)
  four p q r s (suc zero) (suc (suc b)) h i = absurd (omega arith)

pub bit-and : (x y k : ℕ) → bit_of (bit_and x y) k ≡ bit_of x k && bit_of y k
bit-and = bit-op bit_and min ◌&&◌ and_shr (λ x y. omega (arith, and_step x y)) (four min ◌&&◌ refl refl refl refl)

pub bit-or : (x y k : ℕ) → bit_of (bit_or x y) k ≡ bit_of x k || bit_of y k
bit-or = bit-op bit_or max ◌||◌ or_shr (λ x y. omega (arith, or_step x y)) (four max ◌||◌ refl refl refl refl)

-- ## The bits of a word

pub words-at : (n x i : ℕ) → i < n → get_or (word_bits n x) i false ≡ bit_of x (n - 1 - i)
unfolding word_bits
words-at zero x i h = absurd (omega arith)
words-at (suc n) x zero h = ap (bit_of x) (omega arith)
words-at (suc n) x (suc i) h = words-at n x i (omega arith) ∙ ap (bit_of x) (omega arith)

pub words-length : (n x : ℕ) → length (word_bits n x) ≡ n
unfolding word_bits
words-length zero x = refl
words-length (suc n) x = ap suc (words-length n x)

-- a word y that differs from x in its bit p alone
module _ (n x y p : ℕ) (v : Bool) (within : p < n) (new : bit_of y p ≡ v) (same : (k : ℕ) → k < n → (p ≡ k → ⊥) → bit_of y k ≡ bit_of x k) where
  words-set : word_bits n y ≡ set (word_bits n x) (n - 1 - p) v
  words-set =
      ext_get_or false (word_bits n y) (set (word_bits n x) (n - 1 - p) v)
      (words-length n y ∙ sym (length-set (word_bits n x) (n - 1 - p) v ∙ words-length n x)) (λ i h. at i (omega (arith, words-length n y)))
    where
      at : (i : ℕ) → i < n → get_or (word_bits n y) i false ≡ get_or (set (word_bits n x) (n - 1 - p) v) i false
      at i h =
          elim (ℕ_discrete i (n - 1 - p)) [
            | yes e ↦
                let k : n - 1 - i ≡ p = omega arith in
                words-at n y i h ∙ ap (bit_of y) k ∙ new
                ∙ sym (rw e (get_or-set_same (word_bits n x) (n - 1 - p) v false (omega (arith, words-length n x))))
            | no d ↦
                words-at n y i h ∙ same (n - 1 - i) (omega arith) (λ e. d (omega arith)) ∙ sym (words-at n x i h)
                ∙ sym (get_or-set_other (word_bits n x) (n - 1 - p) i v false d)
          ]

-- a bit set, and a bit cleared, by a mask
pub words-or : (n x p : ℕ) → p < n → word_bits n (bit_or x (2 ^ p)) ≡ set (word_bits n x) (n - 1 - p) true
words-or n x p h =
    words-set n x (bit_or x (2 ^ p)) p true h
    (bit-or x (2 ^ p) p ∙ rw (bit-pow p p, eq-eqb p p refl) (or-true (bit_of x p)))
    (λ k i d. bit-or x (2 ^ p) k ∙ rw (bit-pow p k, ne_eqb p k d) (or-false (bit_of x k)))

pub words-and-not : (n x p : ℕ) → p < n → word_bits n (bit_and x (2 ^ n - 1 - 2 ^ p)) ≡ set (word_bits n x) (n - 1 - p) false
words-and-not n x p h =
    words-set n x (bit_and x (2 ^ n - 1 - 2 ^ p)) p false h
    (bit-and x (2 ^ n - 1 - 2 ^ p) p ∙ rw (bit_not n p (2 ^ p) h (pow-lt h), bit-pow p p, eq-eqb p p refl) (and-false (bit_of x p)))
    (λ k i d. bit-and x (2 ^ n - 1 - 2 ^ p) k ∙ rw (bit_not n k (2 ^ p) i (pow-lt h), bit-pow p k, ne_eqb p k d) (and-true (bit_of x k)))

-- the bit p of a byte cleared, and then set to v, as the machine shifts it
pub words_put : (b p : ℕ) (v : Bool) → p < 8 → {x : ℕ} → x ≡ from_bool v
    → word_bits 8 (bit_or (bit_and b (255 - 1 * 2 ^ p % 256)) (x * 2 ^ p % 256)) ≡ set (word_bits 8 b) (7 - p) v
words_put b p false h e =
    let none : 0 * 2 ^ p % 256 ≡ 0 = omega arith in
    rw (e, one_shl p 8 h, none, or_zero_r) (words-and-not 8 b p h)
words_put b p true h e =
    rw (e, one_shl p 8 h)
    (words-or 8 (bit_and b (255 - 2 ^ p)) p h ∙ rw (words-and-not 8 b p h) (set-set (word_bits 8 b) (7 - p) false true))

-- ## Two words, one after the other

-- the high bits, and the others
pub words-split : (a b x : ℕ) → word_bits (a + b) x ≡ word_bits a (x / 2 ^ b) ++ word_bits b x
unfolding word_bits
words-split zero b x = rw zero-add
words-split (suc a) b x =
    ap (λ (n : ℕ). word_bits n x) (suc-add a b)
    ∙ ap₂ (λ (v : Bool) (l : List Bool). v ∷ l) (ap (bit_of x) (add_comm a b) ∙ sym (bit-shr x b a)) (words-split a b x)

pub words-mod : (n b x : ℕ) → n ≤ b → word_bits n (x % 2 ^ b) ≡ word_bits n x
unfolding word_bits
words-mod zero b x h = refl
words-mod (suc n) b x h = ap₂ (λ (v : Bool) (l : List Bool). v ∷ l) (bit-mod x b n h) (words-mod n b x (omega arith))

pub words-join : (a b x y : ℕ) → y < 2 ^ b → word_bits (a + b) (x * 2 ^ b + y) ≡ word_bits a x ++ word_bits b y
words-join a b x y h =
    words-split a b (x * 2 ^ b + y)
    ∙ ap₂ (λ (u v : List Bool). u ++ v) (ap (word_bits a) (high x b h))
    (sym (words-mod b b (x * 2 ^ b + y) (omega arith)) ∙ ap (word_bits b) (low x b h))

-- a bit on top of a word
pub words-cons : (a : Bool) (n x : ℕ) → x < 2 ^ n → word_bits (suc n) (bit_value a * 2 ^ n + x) ≡ a ∷ word_bits n x
words-cons a n x h =
    let e : suc n ≡ 1 + n = omega arith in
    ap (λ (k : ℕ). word_bits k (bit_value a * 2 ^ n + x)) e ∙ words-join 1 n (bit_value a) x h ∙ ap (λ (l : List Bool). l ++ word_bits n x) (one a)
  where
    one : (a : Bool) → word_bits 1 (bit_value a) ≡ a ∷ []
    one false = unfold word_bits bit_of in refl
    one true = unfold word_bits bit_of in refl

pub words-zero : (n : ℕ) → word_bits n 0 ≡ replicate n false
unfolding word_bits
words-zero zero = refl
words-zero (suc n) = ap₂ (λ (v : Bool) (l : List Bool). v ∷ l) (bit-zero n) (words-zero n)

-- a word, and zeros
pub words-padded : (a b x : ℕ) → word_bits (a + b) (x * 2 ^ b) ≡ word_bits a x ++ replicate b false
words-padded a b x =
    ap (word_bits (a + b)) (sym (add-zero (x * 2 ^ b))) ∙ words-join a b x 0 (pow_pos b) ∙ ap (λ (l : List Bool). word_bits a x ++ l) (words-zero b)
