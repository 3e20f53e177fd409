-- Columns: how long they are, that they give the number back, and how they are put and read.
use mathlib.Core.Path.{◌≡◌, refl, sym, ap, ◌∙◌}
use mathlib.Core.List.{List, [], ◌∷◌, ◌++◌, foldl, foldl-append, append_assoc}
use Prim.Native.Nat.{ℕ, zero, suc, ◌+◌, ◌-◌, ◌*◌, ◌/◌, ◌%◌, ◌^◌, ◌≤◌, ◌<◌}
use native.Mathlib.Omega.{arith}
use native.Mathlib.Numerals.{add-one}
use native.Mathlib.Nat.{add-zero, pow-succ', pow-le-pow_right}
use native.Mathlib.Decide.{dec_le}
use lib.ListN.{length, get_or, take, drop, set, length-append, drop_of_length-le}
use lib.Seq.{sets, sets-eq, set_comm, drop-cons, drop-drop}
use borrow.Rule.Slice.PartMut.{put_mid}
use borrow.Author.Tests.{ne_eqb}
use Rattle.columns.specs.Columns.{digit, leader, leading, column, decimal}

-- the last element is put first, as the columns of a number are
sets_last : {A : Type 0} (l : List A) (i : ℕ) (x : List A) (a : A) → sets l i (x ++ (a ∷ [])) ≡ sets (set l (i + length x) a) i x
sets_last l i [] a = rw add-zero
sets_last {A} l i (b ∷ x) a =
    let e : i + suc (length x) ≡ suc i + length x = omega arith in
    sets_last (set l i b) (suc i) x a
    ∙ ap (λ (k : List A). sets k (suc i) x)
    (set_comm l i (suc i + length x) b a (λ (q : i ≡ suc i + length x). omega arith) ∙ ap (λ (k : ℕ). set (set l k a) i b) (sym e))

-- ## Lengths

leading_length : (w k : ℕ) → length (leading w k) ≡ w
unfolding leading
leading_length zero k = refl
leading_length (suc w) k = omega (arith, length-append (leading w (k / 10)) (leader k ∷ []), leading_length w (k / 10))

pub column-length : (w n : ℕ) → length (column w n) ≡ w
unfolding column
column-length zero n = refl
column-length (suc w) n = simp (length-append, leading_length) (omega arith)

-- ## A number from its columns

decimal-last : (x : List ℕ) (b : ℕ) → decimal (x ++ (b ∷ [])) ≡ 10 * decimal x + (b - 48)
unfolding decimal
decimal-last x b = foldl-append (λ v b. 10 * v + (b - 48)) 0 x (b ∷ [])

pub leader-digit : (k : ℕ) → (k ≡ 0 → ⊥) → leader k ≡ digit k
unfolding leader
leader-digit k h = rw (leader, ne_eqb k 0 h)

-- a column in front of digits counts as its digit: a space as 0
leader-counts : (k : ℕ) → leader k - 48 ≡ k % 10
leader-counts k =
    elim (dec_le k 0) [
      | yes h ↦ let z : k ≡ 0 = omega arith in rw z (unfold leader in refl)
      | no h ↦ omega (arith, leader-digit k (λ (z : k ≡ 0). absurd (h (omega arith))))
    ]

leading-number : (w k : ℕ) → k < 10 ^ w → decimal (leading w k) ≡ k
unfolding leading
leading-number zero k h = unfold decimal in omega arith
leading-number (suc w) k h =
    omega (
      arith,
      decimal-last (leading w (k / 10)) (leader k),
      leader-counts k,
      leading-number w (k / 10) (omega (arith, pow-succ' 10 w)),
    )

-- what is printed is read
pub column-number : (w n : ℕ) → n < 10 ^ w → decimal (column w n) ≡ n
unfolding column
column-number zero n h = unfold decimal in omega arith
column-number (suc w) n h = simp decimal-last (omega (arith, leading-number w (n / 10) (omega (arith, pow-succ' 10 w))))

leading-below : (w k : ℕ) → decimal (leading w k) < 10 ^ w
unfolding leading
leading-below zero k = unfold decimal in omega arith
leading-below (suc w) k =
    omega (arith, decimal-last (leading w (k / 10)) (leader k), leader-counts k, leading-below w (k / 10), pow-succ' 10 w)

-- columns give no more than as many digits can
pub column-below : (w n : ℕ) → decimal (column w n) < 10 ^ w
unfolding column
column-below zero n = unfold decimal in omega arith
column-below (suc w) n = simp decimal-last (omega (arith, leading-below w (n / 10), pow-succ' 10 w))

-- ## Putting a number, column by column from the right

-- the column after others, put first
last_put : (out : List ℕ) (at end w k x : ℕ) → end ≡ at + w → sets (set out end x) at (leading w k) ≡ sets out at (leading w k ++ (x ∷ []))
last_put out at end w k x e =
    let last : end ≡ at + length (leading w k) = omega (arith, leading_length w k) in
    ap (λ (i : ℕ). sets (set out i x) at (leading w k)) last ∙ sym (sets_last out at (leading w k) x)

-- the columns from one place up to another are left to put: the last of them, and then those before it
pub leading_less : (out : List ℕ) (at end k : ℕ) → at < end
    → sets (set out (end - 1) (leader k)) at (leading (end - 1 - at) (k / 10)) ≡ sets out at (leading (end - at) k)
unfolding leading
leading_less out at end k h =
    let e : end - at ≡ suc (end - 1 - at) = omega arith in rw e (last_put out at (end - 1) (end - 1 - at) (k / 10) (leader k) (omega arith))

-- none is left
pub leading_none : (out : List ℕ) (at end k : ℕ) → end ≤ at → sets out at (leading (end - at) k) ≡ out
unfolding leading
leading_none out at end k h = let e : end - at ≡ 0 = omega arith in rw e refl

-- all are left but for the last column of the number
pub column_last : (out : List ℕ) (at w n : ℕ) → (w ≡ 0 → ⊥)
    → sets (set out (at + w - 1) (digit n)) at (leading (at + w - 1 - at) (n / 10)) ≡ sets out at (column w n)
unfolding column
column_last out at zero n h = absurd (h refl)
column_last out at (suc w) n h =
    let e : at + suc w - 1 - at ≡ w = omega arith in rw e (last_put out at (at + suc w - 1) w (n / 10) (digit n) (omega arith))

-- ## Reading a number, digit by digit

-- after i bytes: their number, which is not large; from it the others make the whole
abbrev pub Counted : List ℕ → ℕ → ℕ → Type 0
Counted text i n = (n + 23 ≤ 23 * 10 ^ i) × (foldl (λ n b. 10 * n + (b - 48)) n (drop i text) ≡ decimal text)

module _ (text : List ℕ) where
  pub counted_none : Counted text 0 0
  unfolding decimal
  counted_none = (omega arith, refl)

  pub counted_few : (i n : ℕ) → Counted text i n → i ≤ 10 → n ≤ 230000000000
  counted_few i n c h = omega (arith, c.0, pow-le-pow_right {n = 10} (omega arith) {i = i} {j = 10} h)

  pub counted_more : (i n x : ℕ) → Counted text i n → i < length text → x ≡ get_or text i 0 - 48 → x ≤ 207 → Counted text (i + 1) (10 * n + x)
  counted_more i n x c h e b = rw add-one (omega (arith, c.0, pow-succ' 10 i), rw e (rw (drop-cons text i 0 h) at c.1))

  pub counted_end : (i n : ℕ) → Counted text i n → length text ≤ i → n ≡ decimal text
  counted_end i n c h = rw (drop_of_length-le text {i = i} h) at c.1

-- ## Putting a text

pub text_put : (out text : List ℕ) (at : ℕ) → at + length text ≤ length out → put_mid at (at + length text - at) out text ≡ sets out at text
text_put out text at h =
    let e : at + length text - at ≡ length text = omega arith in
    rw (e, drop-drop (length text) at out) (sym (append_assoc (take at out) text (drop (at + length text) out)) ∙ sym (sets-eq text out at h))
