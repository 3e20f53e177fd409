-- The ones among bits, and in the words and bytes that hold them.
use mathlib.Core.Path.{◌≡◌, refl, sym, ap, ap₂, ◌∙◌}
use mathlib.Core.Bool.{Bool, true, false, not}
use mathlib.Core.List.{List, [], ◌∷◌, ◌++◌, map}
use Prim.Native.Nat.{ℕ, zero, suc, ◌+◌, ◌-◌, ◌*◌, ◌/◌, ◌%◌, ◌^◌, ◌≤◌, ◌<◌}
use native.Mathlib.Omega.{arith}
use native.Mathlib.Nat.{add-zero, mod-lt, mod-eq_of_lt}
use lib.ListN.{length, get_or, take, drop, replicate, length-take, length-drop}
use lib.Seq.{take-add, get_or-drop}
use lib.Pow.{pow_pos, mod-pow-add}
use lib.Count.{ones, ones_in, ones_cat}
use Rattle.lists.specs.Lists.{filter}
use Rattle.lists.proofs.Filter.{filter-pass, filter-fail}
use Rattle.bits.specs.Bits.{word_bits, unpack, bit_value, same_bit, count}
use Rattle.bits.proofs.Words.{digit, bit-value}
use Rattle.bits.proofs.Bytes.{unpack-length, unpack-take, unpack-drop, high-below, first-bits}

-- ## Ones

pub count-append : (v : Bool) (a b : List Bool) → count v (a ++ b) ≡ count v a + count v b
unfolding count
count-append v [] b = omega arith
count-append v (x ∷ a) b = omega (arith, count-append v a b)

pub count-le : (v : Bool) (b : List Bool) → count v b ≤ length b
unfolding count
count-le v [] = omega arith
count-le v (a ∷ b) = omega (arith, count-le v b, bit-value-le (same_bit v a))
  where
    bit-value-le : (a : Bool) → bit_value a ≤ 1
    bit-value-le false = omega arith
    bit-value-le true = omega arith

-- the ones and the zeros
pub count-both : (b : List Bool) → count true b + count false b ≡ length b
unfolding count
count-both [] = refl
count-both (true ∷ b) = omega (arith, count-both b)
count-both (false ∷ b) = omega (arith, count-both b)

-- zeros have no ones, and what has no ones is zeros
pub zeros-none : (k : ℕ) → count true (replicate k false) ≡ 0
unfolding count
zeros-none zero = refl
zeros-none (suc k) = omega (arith, zeros-none k)

pub none-zeros : (b : List Bool) → count true b ≡ 0 → b ≡ replicate (length b) false
unfolding count
none-zeros [] e = refl
none-zeros (false ∷ b) e = ap (λ (l : List Bool). false ∷ l) (none-zeros b (omega arith))
none-zeros (true ∷ b) e = absurd (omega arith)

-- the ones of q bytes are few
pub count-few : (s : List ℕ) (q : ℕ) → count true (unpack (take q s)) ≤ 8 * q
count-few s q = omega (arith, count-le true (unpack (take q s)), unpack-length (take q s), length-take q s)

count_low : (n x : ℕ) → count true (word_bits n x) ≡ ones (x % 2 ^ n)
unfolding count word_bits ones ones_in
count_low zero x = let z : x % 1 ≡ 0 = omega arith in sym (ap ones z)
count_low (suc n) x =
    let e : 1 + n ≡ suc n = omega arith in
    ap₂ (λ (u v : ℕ). u + v) (bit-value x n ∙ digit (λ d. d ≡ ones d) refl refl (x / 2 ^ n)) (count_low n x)
    ∙ sym (ones_cat n (x / 2 ^ n % 2) (x % 2 ^ n) (mod-lt x (pow_pos n))) ∙ ap ones (sym (mod-pow-add x 1 n) ∙ ap (λ (k : ℕ). x % 2 ^ k) e)

-- the ones of a word, as the machine counts them
pub count_word : (n x : ℕ) → x < 2 ^ n → count true (word_bits n x) ≡ ones x
count_word n x h = count_low n x ∙ ap ones (mod-eq_of_lt h)

-- between two places
pub count-between : (v : Bool) (a k : ℕ) (b : List Bool) → count v (take (a + k) b) ≡ count v (take a b) + count v (take k (drop a b))
count-between v a k b = ap (count v) (take-add a k b) ∙ count-append v (take a b) (take k (drop a b))

-- whole bytes, and the first bits of one more
pub count-whole : (s : List ℕ) (e : ℕ) → e % 8 ≡ 0 → count true (unpack (take (e / 8) s)) ≡ count true (take e (unpack s))
count-whole s e z =
    let n : 8 * (e / 8) ≡ e = omega arith in
    ap (count true) (unpack-take s (e / 8) ∙ ap (λ (k : ℕ). take k (unpack s)) n)

pub count-part : (s : List ℕ) (e : ℕ) → e / 8 < length s → get_or s (e / 8) 0 < 256
    → count true (unpack (take (e / 8) s)) + ones (get_or s (e / 8) 0 / 2 ^ (8 - e % 8)) ≡ count true (take e (unpack s))
count-part s e h b =
    let q : ℕ = e / 8 in
    let j : ℕ = e % 8 in
    let n : 8 * q + j ≡ e = omega arith in
    let x : get_or (drop q s) 0 0 ≡ get_or s q 0 = get_or-drop q s 0 0 ∙ ap (λ (k : ℕ). get_or s k 0) (add-zero q) in
    let first : word_bits j (get_or s q 0 / 2 ^ (8 - j)) ≡ take j (drop (8 * q) (unpack s)) =
    ap (λ (x : ℕ). word_bits j (x / 2 ^ (8 - j))) (sym x) ∙ first-bits (drop q s) j (omega arith) (omega (arith, length-drop q s)) ∙ ap (take j) (unpack-drop s q) in
    ap₂ (λ (u v : ℕ). u + v) (ap (count true) (unpack-take s q))
    (sym (count_word j (get_or s q 0 / 2 ^ (8 - j)) (high-below (get_or s q 0) j (omega arith) b)) ∙ ap (count true) first)
    ∙ sym (count-between true (8 * q) j (unpack s)) ∙ ap (λ (k : ℕ). count true (take k (unpack s))) n

-- as many elements fail a test as there are zeros among its answers
pub filter-count : {A : Type 0} (f : A → Bool) (l : List A) → length (filter (λ x. not (f x)) l) ≡ count false (map f l)
unfolding count
filter-count f [] = unfold filter in refl
filter-count {A} f (x ∷ l) = go (f x) refl (filter-count f l)
  where
    go : (v : Bool) → f x ≡ v → length (filter (λ x. not (f x)) l) ≡ count false (map f l)
        → length (filter (λ x. not (f x)) (x ∷ l)) ≡ count false (map f (x ∷ l))
    go true e ih = rw (filter-fail (λ (x : A). not (f x)) x l (ap not e), e) (omega arith)
    go false e ih = rw (filter-pass (λ (x : A). not (f x)) x l (ap not e), e) (omega arith)
