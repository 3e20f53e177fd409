-- What is told of a row and of a span of it, where a part more is taken.
use mathlib.Core.Path.{◌≡◌, refl, sym, ap, subst, ◌∙◌}
use mathlib.Core.Bool.{Bool}
use mathlib.Core.List.{List, [], ◌++◌, flatten}
use mathlib.Core.Logic.{inl, inr}
use Prim.Native.Nat.{ℕ, ◌+◌, ◌-◌, ◌^◌, ◌≤◌, ◌<◌}
use native.Mathlib.Omega.{arith}
use native.Mathlib.Decide.{dec_le}
use lib.ListN.{length, take, drop, length-append, length-take, drop_of_length-le}
use lib.Seq.{slice, take-nil, drop-nil, take_all, take-append-le, drop-append-le}
use Rattle.lists.specs.Lists.{sum}
use Rattle.lists.proofs.Sums.{sum-append, sum-take, sum_drop}
use Rattle.fibonacci.specs.Encoding.{row_bits}
use Rattle.fibonacci.proofs.Sums.{sum-most}
use Rattle.calls.specs.Limits.{max_number, max_count}
use Rattle.word_decoder.specs.declared.Part.{Part}
use Rattle.word_decoder.specs.declared.Summary.{Summary}
use Rattle.word_decoder.specs.Leaves.{Taken, DecodedPrefix, summary, EndsPart, CountsInSpan, IsPart, Adds, Summed, Stopped, Spanned}
use Rattle.word_decoder.proofs.Taking.{decoded-none, decoded-more, decoded-end}

pub told-same : (f g : Summary) → f.count ≡ g.count → f.bits ≡ g.bits → f.total ≡ g.total → f.all ≡ g.all → f.start ≡ g.start → f ≡ g
told-same f g a b c d e = λ i. record { count = a i; bits = b i; total = c i; all = d i; start = e i }

pub summary_none : (m from to : ℕ) → record { count = 0; bits = 0; total = 0; all = 0; start = 0 } ≡ summary m from to []
summary_none m from to =
    told-same _ _ refl (unfold row_bits flatten in refl) (sym (ap sum (ap (drop from) (take-nil to) ∙ drop-nil from))) refl
    (unfold row_bits flatten in rw (take-nil from) refl)

-- a part that is in a span, or is not
module _ (from to until add : ℕ) (xs ys : List ℕ) (i : ℕ) (l : length xs ≡ i) (few : length (xs ++ ys) ≤ until) where
  segment-inside : from ≤ i → until ≤ to → sum (slice from to (xs ++ ys)) ≡ sum (slice from to xs) + sum ys
  segment-inside f t =
      rw (take_all to (xs ++ ys) (omega arith), take_all to xs (omega (arith, length-append xs ys)), drop-append-le from xs ys (omega arith)) (sum-append (drop from xs) ys)

  segment-before : until ≤ from → sum (slice from to (xs ++ ys)) ≡ sum (slice from to xs)
  segment-before f =
      let none : (z : List ℕ) → length z ≤ from → slice from to z ≡ [] = λ z h. drop_of_length-le (take to z) {i = from} (omega (arith, length-take to z)) in
      rw (none (xs ++ ys) (omega arith), none xs (omega (arith, length-append xs ys))) refl

  segment-after : to ≤ i → sum (slice from to (xs ++ ys)) ≡ sum (slice from to xs)
  segment-after t = rw (take-append-le to xs ys (omega arith)) refl

  pub segment-more : (old : ℕ) → old ≡ sum (slice from to xs) → (i < from → until ≤ from) → (from ≤ i → i < to → until ≤ to)
      → (from ≤ i → i < to → add ≡ sum ys) → (i < from → add ≡ 0) → (to ≤ i → add ≡ 0) → old + add ≡ sum (slice from to (xs ++ ys))
  segment-more old is u v inside before after =
      elim (dec_le from i) [
        | yes f ↦
            elim (dec_le to i) [
              | yes t ↦ omega (arith, after t, segment-after t)
              | no t ↦ omega (arith, inside f (omega arith), segment-inside f (v f (omega arith)))
            ]
        | no f ↦ omega (arith, before (omega arith), segment-before (u (omega arith)))
      ]

-- what is told with it
module _ (m from to : ℕ) (xs ys : List ℕ) (p : Part) (part : IsPart m from to xs ys p) where
  -- the span begins behind all numbers,
  start-behind : length (xs ++ ys) ≤ from → length (row_bits m (take from (xs ++ ys))) ≡ p.bits
  start-behind h = ap (λ (r : List ℕ). length (row_bits m r)) (take_all from (xs ++ ys) h) ∙ sym part.end

  -- or among those before the part
  start-among : from < length (xs ++ ys) → length (row_bits m (take from (xs ++ ys))) ≡ length (row_bits m (take from xs))
  start-among h =
      let among : from ≤ length xs =
      elim (dec_le from (length xs)) [
        | yes l ↦ l
        | no l ↦ absurd (omega (arith, part.before (omega arith)))
      ] in
      ap (λ (r : List ℕ). length (row_bits m r)) (take-append-le from xs ys among)

  pub summary-more : (f : Summary) (counted start : ℕ) → f ≡ summary m from to xs → CountsInSpan from to f.count p.sum counted
      → (f.count + p.count ≤ from → start ≡ p.bits) → (from < f.count + p.count → start ≡ f.start)
      → record { count = f.count + p.count; bits = p.bits; total = f.total + counted; all = f.all + p.sum; start = start } ≡ summary m from to (xs ++ ys)
  summary-more f counted start e counts far near =
      let count : f.count ≡ length xs = ap (λ (g : Summary). g.count) e in
      let total : f.total ≡ sum (slice from to xs) = ap (λ (g : Summary). g.total) e in
      let all : f.all ≡ sum xs = ap (λ (g : Summary). g.all) e in
      let begin : f.start ≡ length (row_bits m (take from xs)) = ap (λ (g : Summary). g.start) e in
      told-same _ _ (omega (arith, part.many, length-append xs ys)) part.end
      (segment-more from to (length (xs ++ ys)) counted xs ys f.count (sym count) (omega arith) f.total total (λ h. part.before (omega arith))
      (λ a b. part.inside (omega arith) (omega arith)) (λ a b. counts.0 a b ∙ part.total) counts.1 counts.2)
      (omega (arith, part.total, sum-append xs ys))
      (elim (dec_le (length (xs ++ ys)) from) [
        | yes a ↦ omega (arith, start-behind a, far (omega (arith, part.many, length-append xs ys)))
        | no a ↦ omega (arith, start-among (omega arith), near (omega (arith, part.many, length-append xs ys)))
      ])

-- ## The first codewords of an encoding

module _ {m limit : ℕ} {b : List Bool} {k i : ℕ} {row : List ℕ} (g : DecodedPrefix m limit b k i row) where
  told-decoded : (from to : ℕ) (f : Summary) → f ≡ summary m from to row → DecodedPrefix m limit b f.bits f.count row
  told-decoded from to f e =
      record {
        taken = subst (λ (k : ℕ). Taken m limit b 0 k row) (decoded-end g ∙ sym (ap (λ (f : Summary). f.bits) e)) g.taken;
        many = sym (ap (λ (f : Summary). f.count) e);
        most = omega (arith, ap (λ (f : Summary). f.count) e, g.many, g.most);
      }

-- nothing yet
pub spanned-none : (m limit from to : ℕ) (b : List Bool) (f : Summary) → f ≡ summary m from to [] → Spanned m limit from to b f
spanned-none m limit from to b f e = record { row = []; decoded = told-decoded (decoded-none m limit b) from to f e; told = e }

pub told-none : (m from to : ℕ) (f : Summary) → f ≡ summary m from to [] → f.bits ≡ 0
unfolding row_bits flatten
told-none m from to f e = ap (λ (f : Summary). f.bits) e

-- a part more
module _ {m limit from to : ℕ} {b : List Bool} {f : Summary} (g : Spanned m limit from to b f) (p : Part) (ys : List ℕ)
    (t : Taken m limit b f.bits p.bits ys) (many : length ys ≡ p.count) (total : p.sum ≡ sum ys) (few : f.count + p.count ≤ max_count) where
  more : DecodedPrefix m limit b p.bits (f.count + p.count) (g.row ++ ys)
  more = decoded-more g.decoded p.bits p.count ys t many few

  -- no sum is larger than 4,096 times the largest number
  pub spanned-room : limit ≤ max_number → (f.count + p.count < 2 ^ 64) × (f.total + p.sum < 2 ^ 64) × (f.all + p.sum < 2 ^ 64)
  spanned-room top =
      let sum_of : f.total ≡ sum (slice from to g.row) = ap (λ (g : Summary). g.total) g.told in
      let all : f.all ≡ sum g.row = ap (λ (g : Summary). g.all) g.told in
      let most = sum-most limit top (g.row ++ ys) more.taken.legal in
      let part : sum (slice from to g.row) ≤ sum g.row = omega (arith, sum_drop from (take to g.row), sum-take to g.row) in (
        omega arith,
        omega (arith, most, more.many, sum-append g.row ys),
        omega (arith, most, more.many, sum-append g.row ys),
      )

  pub spanned-more : (f.count < from → f.count + p.count ≤ from) → (from ≤ f.count → f.count < to → f.count + p.count ≤ to)
      → (f' : Summary) → Adds from to f p f'
      → Spanned m limit from to b f' × (f'.bits ≡ p.bits) × (f'.count ≡ f.count + p.count)
  spanned-more before inside f' is =
      let part : IsPart m from to g.row ys p =
      record {
        many = many;
        end = decoded-end more;
        total = total;
        before = λ h. omega (arith, more.many, g.decoded.many, before (omega (arith, g.decoded.many)));
        inside = λ h l. omega (arith, more.many, g.decoded.many, inside (omega (arith, g.decoded.many)) (omega (arith, g.decoded.many)));
      } in
      let told = is m g.row ys g.told part in (
        record { row = g.row ++ ys; decoded = told-decoded more from to f' told; told = told },
        ap (λ (f : Summary). f.bits) told ∙ sym part.end,
        ap (λ (f : Summary). f.count) told ∙ more.many,
      )

-- a part as far as words take it, up to the span's begin or end
module _ {m limit from to : ℕ} {b : List Bool} {f : Summary} (g : Spanned m limit from to b f) (k end : ℕ) (at : k ≡ f.bits)
    (less : f.count < max_count) (ends : EndsPart from to f.count end) (p : Part) (s : Summed m limit b k (end - f.count) p) where
  taken : Taken m limit b f.bits p.bits s.row
  taken = rw (← at) s.taken

  pub part-room : limit ≤ max_number → (f.count + p.count < 2 ^ 64) × (f.total + p.sum < 2 ^ 64) × (f.all + p.sum < 2 ^ 64)
  part-room = spanned-room g p s.row taken s.many s.total (omega (arith, ends, s.few))

  pub part-more : (f' : Summary) → Adds from to f p f'
      → Spanned m limit from to b f' × (f'.bits ≡ p.bits) × (f'.count ≡ f.count + p.count)
  part-more =
      spanned-more g p s.row taken s.many s.total (omega (arith, ends, s.few)) (λ h. omega (arith, ends.1, ends.2, s.few))
      (λ h l. omega (arith, ends.1, ends.3, s.few))

  pub part-stopped : (count most : ℕ) → p.count < end - f.count → Stopped m limit b p.bits count most
  part-stopped count most h = elim s.stopped [ inl e ↦ absurd (omega arith) | inr e ↦ inr e ]
