-- What partitioning words by a bit has done after some of them.
use mathlib.Core.Path.{◌≡◌, refl, sym, ap, ap₂, ◌∙◌}
use mathlib.Core.Bool.{Bool, true, false, not}
use mathlib.Core.List.{List, [], ◌∷◌, ◌++◌, map, append-nil}
use Prim.Native.Nat.{ℕ, ◌+◌, ◌-◌, ◌≤◌, ◌<◌}
use native.Mathlib.Omega.{arith}
use native.Mathlib.Nat.{add-zero}
use native.Mathlib.Numerals.{add-one}
use lib.ListN.{length, get_or, take, drop, set, length-set, length-drop, length-map, drop_of_length-le}
use lib.Seq.{sets, take-suc-set, take-set-le, drop-set-lt, drop-drop, get_or-drop, take_all, length-take-le}
use mir.Val.{bool_byte}
use Rattle.lists.specs.Lists.{filter}
use Rattle.lists.proofs.Lists.{sets-append, map_next}
use Rattle.lists.proofs.Filter.{pass-next, fail-next}
use Rattle.bits.specs.Bits.{count}
use Rattle.bits.proofs.Count.{filter-count}

-- After i of the words xs: they have become x, of which all but o begin with zeros, the spare words t begin with o ones, and the bits b have become c
pub record Partition (f : ℕ → Bool) (xs x t : List ℕ) (o i : ℕ) (at : ℕ) (b c : List Bool) : Type 0 where
  pub long : length x ≡ length xs
  pub spare : length xs ≤ length t
  pub within : i ≤ length xs
  pub few : o ≤ i
  pub zeros : take (i - o) x ≡ filter (λ n. not (f n)) (take i xs)
  pub ones : take o t ≡ filter f (take i xs)
  pub rest : drop i x ≡ drop i xs
  pub bits : c ≡ sets b at (map f (take i xs))

-- at the start
pub partition-none : (f : ℕ → Bool) (xs t : List ℕ) (at : ℕ) (b : List Bool) → length xs ≤ length t → Partition f xs xs t 0 0 at b b
unfolding filter
partition-none f xs t at b h =
    record { long = refl; spare = h; within = omega arith; few = omega arith; zeros = refl; ones = refl; rest = refl; bits = refl }

-- one word more
module _ {f : ℕ → Bool} {xs x t : List ℕ} {o i at : ℕ} {b c : List Bool} (h : Partition f xs x t o i at b c) (l : i < length xs) where
  -- the next word has not been written over
  here : get_or x i 0 ≡ get_or xs i 0
  here = sym (front x) ∙ ap (λ (y : List ℕ). get_or y 0 0) h.rest ∙ front xs
    where
      front : (y : List ℕ) → get_or (drop i y) 0 0 ≡ get_or y i 0
      front y = get_or-drop i y 0 0 ∙ ap (λ (n : ℕ). get_or y n 0) (add-zero i)

  rest-next : drop (i + 1) x ≡ drop (i + 1) xs
  rest-next = sym (drop-drop 1 i x) ∙ ap (drop 1) h.rest ∙ drop-drop 1 i xs

  -- a word stored behind others
  stored : (y : List ℕ) (k : ℕ) → k < length y → take (k + 1) (set y k (get_or x i 0)) ≡ take k y ++ (get_or x i 0 ∷ [])
  stored y k lt = rw add-one (take-suc-set y k (get_or x i 0) lt)

  -- a word stored behind others does not change them
  behind : (y : List ℕ) (k : ℕ) → take k (set y k (get_or x i 0)) ≡ take k y
  behind y k = take-set-le k y k (get_or x i 0) (omega arith)

  -- its bit
  bits-next : (v : Bool) → f (get_or xs i 0) ≡ v → set c (at + i) v ≡ sets b at (map f (take (i + 1) xs))
  bits-next v e =
      let n : at + i ≡ at + length (map f (take i xs)) =
      ap (λ (k : ℕ). at + k) (sym (length-map (take i xs) f ∙ length-take-le i xs h.within)) in
      rw (← e) (ap₂ (λ (y : List Bool) (k : ℕ). set y k (f (get_or xs i 0))) h.bits n)
      ∙ sym (ap (sets b at) (map_next xs i 0 l f) ∙ sets-append b at (map f (take i xs)) (f (get_or xs i 0) ∷ []))

  -- the word is stored behind the zeros and behind the ones, and its bit says which of the two are one more
  pub partition-next : (v : Bool) → v ≡ f (get_or x i 0)
      → Partition f xs (set x (i - o) (get_or x i 0)) (set t o (get_or x i 0)) (o + bool_byte v) (i + 1) at b (set c (at + i) v)
  partition-next v e = go v (ap f (sym here) ∙ sym e)
    where
      go : (v : Bool) → f (get_or xs i 0) ≡ v
          → Partition f xs (set x (i - o) (get_or x i 0)) (set t o (get_or x i 0)) (o + bool_byte v) (i + 1) at b (set c (at + i) v)
      go v w =
          record {
            long = rw length-set h.long;
            spare = rw length-set h.spare;
            within = omega arith;
            few = few v;
            zeros = zeros v w;
            ones = ones v w;
            rest = drop-set-lt (i + 1) x (i - o) (get_or x i 0) (omega arith) ∙ rest-next;
            bits = bits-next v w;
          }
        where
          few : (v : Bool) → o + bool_byte v ≤ i + 1
          few false = omega (arith, h.few)
          few true = omega (arith, h.few)

          zeros : (v : Bool) → f (get_or xs i 0) ≡ v → take (i + 1 - (o + bool_byte v)) (set x (i - o) (get_or x i 0)) ≡ filter (λ n. not (f n)) (take (i + 1) xs)
          zeros false w =
              let k : i + 1 - (o + 0) ≡ i - o + 1 = omega (arith, h.few) in
              rw k (stored x (i - o) (omega (arith, h.long)))
              ∙ ap₂ (λ (y : List ℕ) (n : ℕ). y ++ (n ∷ [])) h.zeros here ∙ sym (pass-next xs i 0 l (λ (n : ℕ). not (f n)) (ap not w))
          zeros true w =
              let k : i + 1 - (o + 1) ≡ i - o = omega arith in
              rw k (behind x (i - o)) ∙ h.zeros ∙ sym (fail-next xs i 0 l (λ (n : ℕ). not (f n)) (ap not w))

          ones : (v : Bool) → f (get_or xs i 0) ≡ v → take (o + bool_byte v) (set t o (get_or x i 0)) ≡ filter f (take (i + 1) xs)
          ones false w = rw add-zero (behind t o) ∙ h.ones ∙ sym (fail-next xs i 0 l f w)
          ones true w =
              stored t o (omega (arith, h.few, h.spare)) ∙ ap₂ (λ (y : List ℕ) (n : ℕ). y ++ (n ∷ [])) h.ones here ∙ sym (pass-next xs i 0 l f w)

-- all of them
module _ {f : ℕ → Bool} {xs x t : List ℕ} {o i at : ℕ} {b c : List Bool} (h : Partition f xs x t o i at b c) (l : length xs ≤ i) where
  all : take i xs ≡ xs
  all = take_all i xs l

  zeros : take (length x - o) x ≡ filter (λ n. not (f n)) xs
  zeros =
      let same : length x - o ≡ i - o = omega (arith, h.long, h.within) in
      rw same (h.zeros ∙ ap (filter (λ (n : ℕ). not (f n))) all)

  -- how many zeros there are
  pub partitioned-count : length x - o ≡ count false (map f xs)
  partitioned-count = sym (length-take-le (length x - o) x (omega arith)) ∙ ap length zeros ∙ filter-count f xs

  -- the ones put back behind the zeros
  pub partitioned-words : (y : List ℕ) → y ≡ take o t
      → take (length x - o) x ++ (y ++ drop (length x - (length x - o)) (drop (length x - o) x)) ≡ filter (λ n. not (f n)) xs ++ filter f xs
  partitioned-words y e =
      let after : drop (length x - (length x - o)) (drop (length x - o) x) ≡ [] =
      drop_of_length-le (drop (length x - o) x) {i = length x - (length x - o)} (omega (arith, length-drop (length x - o) x)) in
      rw (after, append-nil) (ap₂ (λ (u v : List ℕ). u ++ v) zeros (e ∙ h.ones ∙ ap (filter f) all))

  -- their bits
  pub partitioned-bits : c ≡ sets b at (map f xs)
  partitioned-bits = h.bits ∙ ap (λ (y : List ℕ). sets b at (map f y)) all
