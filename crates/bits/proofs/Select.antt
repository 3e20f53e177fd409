-- The place of a bit: how far it is, and what may be skipped on the way to it.
use mathlib.Core.Path.{◌≡◌, sym, ap, ap₂, ◌∙◌}
use mathlib.Core.Bool.{Bool, true, false}
use mathlib.Core.List.{List, [], ◌∷◌, ◌++◌, append-nil}
use mathlib.Core.Logic.{◌⊎◌, inl, inr}
use Prim.Native.Nat.{ℕ, zero, suc, ◌+◌, ◌-◌, ◌*◌, ◌/◌, ◌%◌, ◌≤◌, ◌<◌}
use native.Mathlib.Omega.{arith}
use native.Mathlib.Decide.{dec_le}
use lib.ListN.{length, take, drop, length-take, length-drop, take-append-drop}
use lib.Seq.{length-take-le, take_all, drop-drop}
use Rattle.lists.proofs.Lists.{take_inner}
use Rattle.bits.specs.Bits.{unpack, bit_value, same_bit, count, select_bit}
use Rattle.bits.proofs.Bytes.{unpack-drop}

-- what holds of bits b before the bits c, by cases of the first: there is none, it is of the kind, and searched for or not, or it is not of the kind.
-- P j l n p says it of j, of the length of b, of how many of the kind b has, and of the place
module _ (v : Bool) (c : List Bool) (P : ℕ → ℕ → ℕ → ℕ → Type 0) (none : (j : ℕ) → P j 0 0 (select_bit v j c)) (this : (l n : ℕ) → P 0 (suc l) (1 + n) 0)
    (next : (j l n p : ℕ) → P j l n p → P (suc j) (suc l) (1 + n) (suc p)) (other : (j l n p : ℕ) → P j l n p → P j (suc l) (0 + n) (suc p)) where
  along : (j : ℕ) (b : List Bool) → P j (length b) (count v b) (select_bit v j (b ++ c))
  unfolding count select_bit
  along j [] = none j
  along zero (a ∷ b) = first (same_bit v a) (along zero b)
    where
      first : (x : Bool) → P 0 (length b) (count v b) (select_bit v 0 (b ++ c))
          → P 0 (suc (length b)) (bit_value x + count v b) (elim x [ true ↦ 0 | false ↦ suc (select_bit v 0 (b ++ c)) ])
      first true h = this (length b) (count v b)
      first false h = other 0 (length b) (count v b) _ h
  along (suc j) (a ∷ b) = later (same_bit v a) (along j b) (along (suc j) b)
    where
      later : (x : Bool) → P j (length b) (count v b) (select_bit v j (b ++ c)) → P (suc j) (length b) (count v b) (select_bit v (suc j) (b ++ c))
          → P (suc j) (suc (length b)) (bit_value x + count v b) (suc (elim x [ true ↦ select_bit v j (b ++ c) | false ↦ select_bit v (suc j) (b ++ c) ]))
      later true h i = next j (length b) (count v b) _ h
      later false h i = other (suc j) (length b) (count v b) _ i

-- bits that have no more of the kind than stand before the one searched for are skipped
pub select-skip : (v : Bool) (j : ℕ) (b c : List Bool) → count v b ≤ j → select_bit v j (b ++ c) ≡ length b + select_bit v (j - count v b) c
select-skip v j b c h =
    along v c (λ j l n p. (i : ℕ) → i + n ≡ j → p ≡ l + select_bit v i c)
    (λ j i e. let same : j ≡ i = omega arith in omega (arith, ap (λ (k : ℕ). select_bit v k c) same)) (λ l n i e. absurd (omega arith))
    (λ j l n p h i e. omega (arith, h i (omega arith))) (λ j l n p h i e. omega (arith, h i (omega arith))) j b
    (j - count v b) (omega arith)

-- bits that have more of it are not
select-front : (v : Bool) (j : ℕ) (b c : List Bool) → j < count v b → select_bit v j (b ++ c) < length b
select-front v j b c =
    along v c (λ j l n p. j < n → p < l) (λ j h. absurd (omega arith)) (λ l n h. omega arith)
    (λ j l n p i h. omega (arith, i (omega arith))) (λ j l n p i h. omega (arith, i (omega arith))) j b

-- ## The place in the whole list

pub select-found : (v : Bool) (j : ℕ) (b : List Bool) → j < count v b → select_bit v j b < length b
select-found v j b h = rw append-nil at (select-front v j b [] h)

pub select-none : (v : Bool) (j : ℕ) (b : List Bool) → count v b ≤ j → select_bit v j b ≡ length b
unfolding select_bit
select-none v j b h = ap (select_bit v j) (sym (append-nil b)) ∙ select-skip v j b [] h ∙ omega arith

pub select-within : (v : Bool) (j : ℕ) (b : List Bool) → select_bit v j b ≤ length b
select-within v j b = elim (dec_le (count v b) j) [ yes h ↦ omega (arith, select-none v j b h) | no h ↦ omega (arith, select-found v j b (omega arith)) ]

-- ## After the first n bits, and among them

select_after : (v : Bool) (j n : ℕ) (b : List Bool) → n ≤ length b → count v (take n b) ≤ j
    → select_bit v j b ≡ n + select_bit v (j - count v (take n b)) (drop n b)
select_after v j n b l h =
    ap (select_bit v j) (sym (take-append-drop n b)) ∙ select-skip v j (take n b) (drop n b) h
    ∙ ap (λ (k : ℕ). k + select_bit v (j - count v (take n b)) (drop n b)) (length-take-le n b l)

select-before : (v : Bool) (j n : ℕ) (b : List Bool) → j < count v (take n b) → select_bit v j b < n
select-before v j n b h = omega (arith, rw take-append-drop at (select-front v j (take n b) (drop n b) h), length-take n b)

-- where fewer than n bits are left, or the next n hold the bit searched for
pub select-near : (v : Bool) (j k at n : ℕ) (b : List Bool) → length b ≤ k → at ≤ k → (k < at + n) ⊎ (j < count v (take n (drop at b)))
    → select_bit v j (drop at b) < n
select-near v j k at n b l h (inl e) = omega (arith, select-within v j (drop at b), length-drop at b)
select-near v j k at n b l h (inr e) = select-before v j n (drop at b) e

-- ## Parts of the bits

-- the bytes from that of bit `at` on
pub part-bits : (s : List ℕ) (at : ℕ) → drop (at % 8) (unpack (take (length s - at / 8) (drop (at / 8) s))) ≡ drop at (unpack s)
part-bits s at =
    let k : ℕ = at / 8 in
    let all : take (length s - k) (drop k s) ≡ drop k s = take_all (length s - k) (drop k s) (omega (arith, length-drop k s)) in
    let n : 8 * k + at % 8 ≡ at = omega arith in
    ap (λ (l : List ℕ). drop (at % 8) (unpack l)) all ∙ ap (drop (at % 8)) (unpack-drop s k) ∙ drop-drop (at % 8) (8 * k) (unpack s)
    ∙ ap (λ (i : ℕ). drop i (unpack s)) n

-- a step of n bits at bit `at` of k bits
module _ (u : List Bool) (from k at n : ℕ) (within : from + k ≤ length u) (fits : at + n ≤ k) where
  pub step-bits : take n (drop at (take k (drop from u))) ≡ take n (drop (from + at) u)
  step-bits = take_inner n at k (drop from u) (omega arith) ∙ ap (take n) (drop-drop at from u)

  pub step-skipped : (v : Bool) (j r : ℕ) → r ≡ count v (take n (drop (from + at) u)) → r ≤ j
      → at + select_bit v j (drop at (take k (drop from u))) ≡ at + n + select_bit v (j - r) (drop (at + n) (take k (drop from u)))
  step-skipped v j r q h =
      let b : List Bool = take k (drop from u) in
      let l : length (drop at b) ≡ k - at = length-drop at b ∙ ap (λ (i : ℕ). i - at) (length-take-le k (drop from u) (omega (arith, length-drop from u))) in
      let e : count v (take n (drop at b)) ≡ r = ap (count v) step-bits ∙ sym q in
      omega (
        arith,
        select_after v j n (drop at b) (omega arith) (omega arith),
        ap₂ (λ (i : ℕ) (c : List Bool). select_bit v (j - i) c) e (drop-drop n at b),
      )
