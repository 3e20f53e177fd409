-- Where the next codeword leads, and what is stored and summed on the way.
use mathlib.Core.Path.{◌≡◌, refl, sym, ap, subst, ◌∙◌}
use mathlib.Core.Bool.{Bool, true, false}
use mathlib.Core.List.{List, [], ◌∷◌, ◌++◌, append-nil, map, flatten}
use Prim.Native.Nat.{ℕ, ◌+◌, ◌-◌, ◌*◌, ◌^◌, ◌≤◌, ◌<◌, min}
use native.Mathlib.Omega.{arith}
use native.Mathlib.Numerals.{add-one}
use lib.ListN.{length, take, drop, set, length-append, length-replicate, drop_of_length-le}
use lib.Seq.{take_at, take-suc-set}
use Rattle.bits.specs.Bits.{unpack}
use Rattle.bits.proofs.Bytes.{unpack-length}
use Rattle.codes.specs.Rows.{Positive}
use Rattle.codes.specs.Parse.{parsed}
use Rattle.codes.proofs.Parse.{onto, onto-parsed}
use Rattle.fibonacci.specs.Code.{runs, ones, value, first, number, codeword, size, Codeword}
use Rattle.fibonacci.specs.Encoding.{row_bits, parse, numbers}
use Rattle.fibonacci.proofs.Lookup.{first-few}
use Rattle.fibonacci.proofs.Numbers.{codeword-number, number_of}
use Rattle.fibonacci.proofs.Numeration.{digits-length}
use Rattle.fibonacci.proofs.Parse.{parse-rest}
use Rattle.fibonacci.proofs.Rows.{row-numbers, bits-parse, bits-numbers}
use Rattle.calls.specs.declared.Refusal.TheVariants.{TooManyCodewords, TooLarge, BadRest}
use Rattle.calls.specs.Limits.{Order, is_number, max_number, max_count}
use Rattle.calls.specs.Reading.{contents}
use Rattle.calls.proofs.Checks.{positive}
use Rattle.reading.specs.Reading.{fibonacci}
use Rattle.reading.specs.Leaves.{NumberOf, is_padding}
use Rattle.calls.proofs.Decoding.{contents-many, contents-large}
use Rattle.reading.proofs.Checking.{padding-is, padding-not, contents-rest, contents-good, numbered-legal, numbered-large}
use Rattle.word_decoder.specs.declared.Part.{Part}
use Rattle.word_decoder.specs.declared.Summary.{Summary}
use Rattle.word_decoder.specs.Leaves.{DecodedPrefix, Taken, Adds, Spanned}
use Rattle.word_decoder.proofs.Taking.{taken_one, decoded-more, decoded-end}
use Rattle.word_decoder.proofs.Told.{spanned-room, spanned-more}
use Rattle.bit_decoder.specs.Leaves.{Pending}
use Rattle.std.specs.Prelude.{Ok, Err}

-- ## The next codeword

-- Up to a bit stand the codewords of a row
module _ (s : List ℕ) {m limit bit count : ℕ} {row : List ℕ} (o : Order m) (g : DecodedPrefix m limit (unpack s) bit count row) where
  abbrev b : List Bool
  b = unpack s

  pos : 1 ≤ m
  pos = omega arith

  row-positive : Positive row
  row-positive = positive limit row g.taken.legal

  -- and then a codeword that ends
  module _ {end len val : ℕ} (t : Pending m b bit end len val m) (coded : Codeword m (t.body ++ ones m)) where
    abbrev ended : List Bool
    ended = t.body ++ ones m

    abbrev behind : List Bool
    behind = drop end b

    abbrev x : ℕ
    x = number m ended

    x-is : x ≡ first m len + value m 1 t.body
    x-is = number_of m t.body ∙ ap (λ (l : ℕ). first m l + value m 1 t.body) t.long

    -- so the numbers go on with its number
    go_on : numbers m b ≡ row ++ (x ∷ numbers m behind)
    go_on =
        let own = codeword-number m ended pos coded in
        let alone : row_bits m (x ∷ []) ≡ codeword m x = unfold row_bits flatten in append-nil (codeword m x) in
        ap (numbers m) g.taken.bits ∙ bits-numbers m row (drop bit b) pos row-positive
        ∙ ap (λ (l : List ℕ). row ++ l)
        (ap (numbers m) (t.bits ∙ ap (λ (c : List Bool). c ++ behind) (sym (alone ∙ own.0))) ∙ bits-numbers m (x ∷ []) behind pos (own.1, tt))

    pub step-many : count ≡ max_count → contents (fibonacci m) limit s ≡ Err TooManyCodewords
    step-many c = contents-many (fibonacci m) limit s row g.taken.legal x (numbers m behind) go_on (g.many ∙ c)

    -- n was found for its number
    module _ (n : ℕ) (is : NumberOf m len val n) (top : limit ≤ max_number) (less : count ≡ max_count → ⊥) where
      near : first m len ≤ max_number → x ≡ first m len + val
      near h = omega (arith, x-is, t.value_is h)

      far : max_number < first m len → max_number < x
      far h = omega (arith, x-is)

      pub step-large : is_number limit n ≡ false → contents (fibonacci m) limit s ≡ Err (TooLarge count)
      step-large l =
          contents-large (fibonacci m) limit s row g.taken.legal x (numbers m behind) go_on (omega (arith, g.many, g.most))
          (numbered-large m len val n is x near far limit top l) ∙ ap (λ (k : ℕ). Err (TooLarge k)) g.many

      pub step-number : is_number limit n ≡ true → (count < max_count) × Taken m limit b bit end (n ∷ [])
      step-number l =
          let size : ℕ = len + m in
          let long : length ended ≡ size = omega (arith, length-append t.body (ones m), length-replicate m true, t.long) in
          let word : take size (drop bit b) ≡ ended = ap (take size) t.bits ∙ take_at ended behind size long in
          let same : n ≡ x = numbered-legal m len val n is x near far limit top l in (
            omega (arith, g.most),
            subst (λ (e : ℕ). Taken m limit b bit e (n ∷ [])) (sym t.at)
                (taken_one m limit b bit size n pos (omega (arith, t.at, t.within)) (subst (Codeword m) (sym word) coded) (same ∙ ap (number m) (sym word)) l),
          )

  -- or no codeword more, and pending bits that are the rest
  module _ {len val run : ℕ} (t : Pending m b bit (length b) len val run) (free : runs m (t.body ++ ones run) ≡ 0) where
    abbrev words : List (List Bool)
    words = map (codeword m) row

    abbrev rest : List Bool
    rest = t.body ++ ones run

    rest-is : parse m b ≡ parsed words rest
    rest-is =
        ap (parse m) g.taken.bits ∙ bits-parse m row (drop bit b) pos row-positive
        ∙ ap (onto words)
        (ap (parse m) (t.bits ∙ ap (λ (d : List Bool). rest ++ d) (drop_of_length-le b (omega arith)) ∙ append-nil rest) ∙ parse-rest m rest pos free)
        ∙ onto-parsed words rest

    short : len < 8 → (length t.body ≡ len) × (val ≡ value m 1 t.body)
    short l = (t.long, t.value_is (first-few m len o (omega arith)))

    far-off : 8 ≤ len → 8 ≤ length t.body
    far-off l = omega (arith, t.long)

    pub step-rest : is_padding len val run ≡ false → contents (fibonacci m) limit s ≡ Err BadRest
    step-rest e =
        contents-rest limit m s row g.taken.legal words rest rest-is (row-numbers m row pos row-positive) (omega (arith, g.many, g.most))
        (padding-not m t.body len val run pos short far-off e)

    pub step_end : is_padding len val run ≡ true → contents (fibonacci m) limit s ≡ Ok row
    step_end e =
        let q = padding-is m t.body len val run pos short far-off e in
        contents-good limit m s row g.taken.legal words rest rest-is (row-numbers m row pos row-positive) (omega (arith, g.many, g.most)) q.0 q.1

-- ## How many numbers so many bytes hold

-- no codeword is shorter than two bits
bits-least : (m : ℕ) (row : List ℕ) → 2 ≤ m → 2 * length row ≤ length (row_bits m row)
unfolding row_bits flatten codeword
bits-least m [] h = omega arith
bits-least m (n ∷ row) h =
    omega (
      arith,
      length-append (codeword m n) (row_bits m row),
      digits-length m (size m n n 0) (n - first m (size m n n 0)) (ones m),
      length-replicate m true,
      bits-least m row h,
    )

pub decoded-few : (s : List ℕ) {m limit bit count : ℕ} {row : List ℕ} → 2 ≤ m → DecodedPrefix m limit (unpack s) bit count row → count ≤ 4 * length s
decoded-few s {m} {limit} {bit} {count} {row} h g = omega (arith, bits-least m row h, decoded-end g, g.many, g.taken.within, unpack-length s)

-- ## A number more

module _ (s row : List ℕ) {m limit bit count : ℕ} (o : Order m) (g : DecodedPrefix m limit (unpack s) bit count (take count row)) (n end : ℕ)
    (step : (count < max_count) × Taken m limit (unpack s) bit end (n ∷ [])) where
  more : DecodedPrefix m limit (unpack s) end (count + 1) (take count row ++ (n ∷ []))
  more = decoded-more g end 1 (n ∷ []) step.1 refl (omega (arith, step.0))

  -- there is room for it in the list,
  pub room-more : min max_count (4 * length s) ≤ length row → count < length row
  room-more h = omega (arith, step.0, decoded-few s o.0 more)

  -- which begins with it and those before it then
  pub stored-more : min max_count (4 * length s) ≤ length row → DecodedPrefix m limit (unpack s) end (count + 1) (take (count + 1) (set row count n))
  stored-more h = rw (add-one count, take-suc-set row count n (room-more h), ← add-one count) more

-- .. and more is told of the row
module _ {m limit from to : ℕ} {b : List Bool} {f : Summary} (g : Spanned m limit from to b f) (n end : ℕ)
    (step : (f.count < max_count) × Taken m limit b f.bits end (n ∷ [])) where
  abbrev one : Part
  one = record { count = 1; bits = end; sum = n }

  pub room-told : limit ≤ max_number → (f.count + 1 < 2 ^ 64) × (f.total + n < 2 ^ 64) × (f.all + n < 2 ^ 64)
  room-told = spanned-room g one (n ∷ []) step.1 refl (omega arith) (omega (arith, step.0))

  pub told-more : (f' : Summary) → Adds from to f one f' → Spanned m limit from to b f' × (f'.count ≡ f.count + 1)
  told-more f' is =
      let t = spanned-more g one (n ∷ []) step.1 refl (omega arith) (omega (arith, step.0)) (λ h. omega arith) (λ h l. omega arith) f' is in
      (t.0, t.2)
