-- What a row of the table says of the bits that it stands for, and what a byte makes of a pending codeword.
use mathlib.Core.Path.{◌≡◌, refl, sym, ap, ap₂, ◌∙◌, subst}
use mathlib.Core.Bool.{Bool, true, false}
use mathlib.Core.List.{List, [], ◌∷◌, ◌++◌, flatten}
use mathlib.Core.Logic.{inl, inr}
use Prim.Native.Nat.{ℕ, suc, ◌+◌, ◌-◌, ◌*◌, ◌/◌, ◌%◌, ◌≤◌, ◌<◌, min}
use native.Mathlib.Omega.{arith}
use native.Mathlib.Decide.{dec_le}
use lib.ListN.{length, get_or, take, drop, length-append, length-replicate}
use lib.Seq.{drop-cons, take_at}
use borrow.Author.Tests.{leb-false}
use Rattle.bits.specs.Bits.{word_bits, unpack}
use Rattle.bits.proofs.Bytes.{unpack-drop}
use Rattle.codes.specs.Parse.{parsed}
use Rattle.fibonacci.specs.Code.{past, F, ones, runs, value, first, number}
use Rattle.fibonacci.specs.Encoding.{IsParse, parse}
use Rattle.calls.specs.Limits.{max_number}
use Rattle.fibonacci.proofs.Runs.{few_ones}
use Rattle.fibonacci.proofs.Parse.{parse-is}
use Rattle.fibonacci.proofs.Numbers.{first-rises, value-append, number_of}
use Rattle.byte_table.specs.Leaves.{prepend_one, without_trailing, trailing_ones, parse_byte, finishing, value0, value1, value2, moved, row_of_parse, row_at}
use Rattle.byte_table.proofs.Moving.{row_moved}
use Rattle.reading.proofs.Reached.{Settled, settled-runs}

-- ## Bits and the ones at their end

-- a one in front
one-settled : (b : List Bool) → Settled b → Settled (prepend_one b)
one-settled [] s = inl refl
one-settled (a ∷ b) (inl e) = let none : suc (length b) ≡ 0 = ap length e in absurd (omega arith)
one-settled (a ∷ b) (inr (p, e)) = inr (true ∷ p, ap (λ (l : List Bool). true ∷ l) e)

pub without-settled : (b : List Bool) → Settled (without_trailing b)
unfolding without_trailing
without-settled [] = inl refl
without-settled (false ∷ b) = zero_settled (without_trailing b) (without-settled b)
  where
    zero_settled : (q : List Bool) → Settled q → Settled (false ∷ q)
    zero_settled q (inl e) = inr ([], ap (λ (l : List Bool). false ∷ l) e)
    zero_settled q (inr (p, e)) = inr (false ∷ p, ap (λ (l : List Bool). false ∷ l) e)
without-settled (true ∷ b) = one-settled (without_trailing b) (without-settled b)

-- bits are those before the ones at their end, and these
without-ones : (b : List Bool) → (k : ℕ) × (b ≡ without_trailing b ++ ones k)
unfolding without_trailing
without-ones [] = (0, refl)
without-ones (false ∷ b) = let t = without-ones b in (t.0, ap (λ (l : List Bool). false ∷ l) t.1)
without-ones (true ∷ b) = let t = without-ones b in joined (without_trailing b) t.0 t.1
  where
    joined : (q : List Bool) (k : ℕ) → b ≡ q ++ ones k → (k : ℕ) × (true ∷ b ≡ prepend_one q ++ ones k)
    joined [] k e = (suc k, ap (λ (l : List Bool). true ∷ l) e)
    joined (a ∷ q) k e = (k, ap (λ (l : List Bool). true ∷ l) e)

pub without-trailing : (b : List Bool) → b ≡ without_trailing b ++ ones (trailing_ones b)
unfolding trailing_ones
without-trailing b =
    let t = without-ones b in
    let k : t.0 ≡ length b - length (without_trailing b) = omega (arith, ap length t.1, length-append (without_trailing b) (ones t.0), length-replicate t.0 true) in
    t.1 ∙ ap (λ (k : ℕ). without_trailing b ++ ones k) k

-- ## A row

pub trailing-few : (b r : List Bool) (ws : List (List Bool)) → parse 3 b ≡ parsed ws r → trailing_ones r < 3
trailing-few b r ws e =
    let free : runs 3 r ≡ 0 = (subst (IsParse 3 b) e (parse-is 3 b (omega arith))).free in
    let cut : runs 3 (without_trailing r ++ ones (trailing_ones r)) ≡ 0 = subst (λ (l : List Bool). runs 3 l ≡ 0) (without-trailing r) free in
    few_ones 3 (trailing_ones r) (omega arith) (omega (arith, settled-runs 3 (without_trailing r) (ones (trailing_ones r)) (omega arith) (without-settled r)))

-- the first codeword is what finishes it and three ones
pub finishing-ones : (b w r : List Bool) (ws : List (List Bool)) → parse 3 b ≡ parsed (w ∷ ws) r → w ≡ finishing (parsed (w ∷ ws) r) ++ ones 3
unfolding finishing
finishing-ones b w r ws e =
    let c = (subst (IsParse 3 b) e (parse-is 3 b (omega arith))).coded.0 in
    let long : length c.body ≡ length w - 3 = omega (arith, ap length c.ends, length-append c.body (ones 3)) in
    c.ends ∙ ap (λ (q : List Bool). q ++ ones 3) (sym (ap (take (length w - 3)) c.ends ∙ take_at c.body (ones 3) (length w - 3) long))

-- the row that a step looks up
pub row-after : (run byte : ℕ) → byte < 256 → row_at (256 * run + byte) ≡ row_of_parse (parse_byte run byte)
unfolding row_at
row-after run byte h = let r : (256 * run + byte) / 256 ≡ run = omega arith in let b : (256 * run + byte) % 256 ≡ byte = omega arith in ap₂ (λ (r b : ℕ). row_of_parse (parse_byte r b)) r b

-- the bits from byte i on
pub bits-next : (s : List ℕ) (i : ℕ) → i < length s → drop (8 * i) (unpack s) ≡ word_bits 8 (get_or s i 0) ++ drop (8 * (i + 1)) (unpack s)
unfolding unpack flatten
bits-next s i h =
    let e : suc i ≡ i + 1 = omega arith in
    sym (unpack-drop s i) ∙ ap unpack (drop-cons s i 0 h)
    ∙ ap (λ (l : List Bool). word_bits 8 (get_or s i 0) ++ l) (unpack-drop s (suc i) ∙ ap (λ (n : ℕ). drop (8 * n) (unpack s)) e)

-- ## A pending codeword

-- What is known of the pending bits before the ones at their end: where they are fewer than 37, how many, and their value
pub record Pending (body : List Bool) (len val : ℕ) : Type 0 where
  pub near : len < 37 → (length body ≡ len) × (val ≡ value 3 1 body)
  pub far : 37 ≤ len → 37 ≤ length body

pub pending-none : Pending [] 0 0
pending-none = record { near = λ h. (refl, unfold value in refl); far = λ h. absurd (omega arith) }

-- all that remains of a byte
pub pending-left : (q : List Bool) → length q < 37 → Pending q (length q) (value0 q)
pending-left q h = record { near = λ h. (refl, refl); far = λ l. absurd (omega arith) }

-- bits more
pub pending-more : (body : List Bool) (len val : ℕ) (q : List Bool) → Pending body len val
    → Pending (body ++ q) (len + length q) (val + moved len (value0 q) (value1 q + value2 q) (value1 q))
pending-more body len val q p =
    let long : length (body ++ q) ≡ length body + length q = length-append body q in
    record {
      near = λ h.
          let n = p.near (omega arith) in
          let v : value 3 (1 + length body) q ≡ moved len (value0 q) (value1 q + value2 q) (value1 q) = ap (λ (l : ℕ). value 3 (1 + l) q) n.0 ∙ row_moved len q in
          (omega (arith, long, n.0), omega (arith, n.1, value-append 3 1 body q, v));
      far = λ h. elim (dec_le 37 len) [ yes l ↦ omega (arith, p.far l, long) | no l ↦ omega (arith, (p.near (omega arith)).0, long) ];
    }

pub pending-clamped : (body : List Bool) (len val : ℕ) → Pending body len val → Pending body (min len 37) val
pending-clamped body len val p = record { near = λ h. let n = p.near (omega arith) in (omega arith, n.1); far = λ h. p.far (omega arith) }

-- no number whose codeword has 37 bits or more before its last ones is legal
first-far : max_number < first 3 37
unfolding first F past
first-far = leb-false (first 3 37) max_number refl

-- the number of the codeword that three ones end
module _ (q : List Bool) (len val : ℕ) (p : Pending q len val) where
  pub pending-near : first 3 len ≤ max_number → number 3 (q ++ ones 3) ≡ first 3 len + val
  pending-near g =
      elim (dec_le 37 len) [
        | yes l ↦ absurd (omega (arith, first-far, first-rises 3 {j = 37} {k = len} l))
        | no l ↦ let n = p.near (omega arith) in number_of 3 q ∙ ap₂ (λ (k v : ℕ). first 3 k + v) n.0 (sym n.1)
      ]

  pub pending-far : max_number < first 3 len → max_number < number 3 (q ++ ones 3)
  pending-far g =
      elim (dec_le 37 len) [
        | yes l ↦ omega (arith, first-far, first-rises 3 {j = 37} {k = length q} (p.far l), number_of 3 q)
        | no l ↦ let n = p.near (omega arith) in let e : first 3 (length q) ≡ first 3 len = ap (first 3) n.0 in omega (arith, number_of 3 q)
      ]
