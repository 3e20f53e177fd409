-- What a loop over the bytes of an encoding keeps, and where each of its steps leads.
use mathlib.Core.Path.{◌≡◌, refl, sym, ap, ap₂, ◌∙◌}
use mathlib.Core.Bool.{Bool, true, false, ◌&&◌}
use mathlib.Core.List.{List, [], ◌∷◌, ◌++◌, append_assoc, map, map-append}
use Prim.Native.Nat.{ℕ, zero, suc, ◌+◌, ◌*◌, ◌^◌, ◌≤◌, ◌<◌, min}
use native.Mathlib.Omega.{arith}
use native.Mathlib.Decide.{dec_le}
use lib.Dec.{ltb, eqb}
use borrow.Author.Tests.{ne_eqb, lt-ltb, le-ltb, ltb-false}
use lib.ListN.{length, get_or, take, length-append, length-map}
use lib.Seq.{sets, length-sets}
use Rattle.lists.proofs.Each.{all_append}
use Rattle.bits.specs.Bits.{word_bits, unpack}
use Rattle.bits.proofs.Bytes.{unpack-length}
use Rattle.codes.specs.Rows.{Positive}
use Rattle.codes.specs.Parse.{Parse, parsed, rest}
use Rattle.fibonacci.specs.Code.{ones, first, number}
use Rattle.fibonacci.specs.Encoding.{parse, numbers}
use Rattle.calls.specs.declared.Refusal.{Refusal}
use Rattle.calls.specs.declared.Refusal.TheVariants.{TooManyCodewords, BadRest}
use Rattle.calls.specs.Leaves.{Scanned}
use Rattle.calls.specs.Limits.{is_number, Legal, max_number, max_count}
use Rattle.calls.specs.Reading.{contents}
use Rattle.calls.proofs.Checks.{above-number, not-both, accepted-one, refused-one, check-passed, then-passed}
use Rattle.calls.specs.Calls.{Outcome, check, and_then}
use Rattle.table_scan.specs.declared.Pending.{Pending}
use Rattle.byte_table.specs.declared.Row.{Row}
use Rattle.byte_table.specs.Leaves.{without_trailing, trailing_ones, parse_byte, finishing, inside_numbers, value0, value1, value2, moved, remains, row_of_parse, row_at, Small, IsRow}
use Rattle.calls.proofs.Decoding.{contents-many, contents-past}
use Rattle.reading.specs.Reading.{fibonacci}
use Rattle.reading.specs.Leaves.{NumberOf, is_padding}
use Rattle.reading.proofs.Reached.{Reached, reached-start, reached-open, reached-shut, reached-numbers, reached-end}
use Rattle.reading.proofs.Checking.{padding-is, padding-not, contents-rest, contents-good, number-positive, coded-positive, numbered-legal, numbered-large}
use Rattle.table_scan.specs.Leaves.{after, judged, stored}
use Rattle.table_scan.proofs.Refusing.{judged-same, judged-fault, judged-passed}
use Rattle.table_scan.proofs.Inside.{few-are, first_three, taken, open-parse, shut-parse}
use Rattle.table_scan.proofs.Stepping.{without-settled, without-trailing, trailing-few, finishing-ones, row-after, bits-next, Pending as Known, pending-none, pending-left, pending-more, pending-clamped, pending-near, pending-far}
use Rattle.std.specs.Prelude.{Ok, Err}

-- ## What the scan leaves

pub refuses : (found : Outcome (List ℕ)) (q : Refusal) (list : List ℕ) → found ≡ Err q → Scanned found (Err q) list
refuses found q list e = rw e (refl, tt)

-- ## What the loop keeps

-- There are no ones exactly where the rows begin at 0
rows-none : (run : ℕ) {rows : ℕ} → rows ≡ 256 * run → eqb rows 0 ≡ eqb run 0
rows-none zero {rows} e = ap (λ (n : ℕ). eqb n 0) e
rows-none (suc run) {rows} e = ne_eqb rows 0 (λ z. omega arith) ∙ sym (ne_eqb (suc run) 0 (λ z. omega arith))

-- After i bytes: the numbers that ended are legal and stored, and what is pending is known by its length and value and by its ones, 256 rows for each
pub record Walked (limit : ℕ) (s : List ℕ) (i : ℕ) (row : List ℕ) (count : ℕ) (left : Pending) : Type 0 where
  pub words : List (List Bool)
  pub body : List Bool
  pub run : ℕ
  pub reached : Reached 3 (unpack s) (8 * i) words body run
  pub many : length words ≡ count
  pub most : count ≤ max_count
  pub legal : Legal limit (map (number 3) words)
  pub stored : take count row ≡ map (number 3) words
  pub room : length row ≡ 4098
  pub pending : Known body left.len left.value
  pub clamped : left.len ≤ 37
  pub small : left.value ≤ 2 ^ 43 * i
  pub at : left.rows ≡ 256 * run

pub walked_start : (limit : ℕ) (s row : List ℕ) → length row ≡ 4098 → Walked limit s 0 row 0 (after (record { len = 0; value = 0; ones = 0 }))
walked_start limit s row h =
    record {
      words = [];
      body = [];
      run = 0;
      reached = reached-start 3 (unpack s) (omega arith);
      many = refl;
      most = omega arith;
      legal = tt;
      stored = refl;
      room = h;
      pending = pending-none;
      clamped = omega arith;
      small = omega arith;
      at = refl;
    }

module _ {limit : ℕ} {s : List ℕ} {i : ℕ} {row : List ℕ} {count : ℕ} {left : Pending} (k : Walked limit s i row count left) where
  abbrev done : List ℕ
  done = map (number 3) k.words

  done-long : length done ≡ count
  done-long = length-map k.words (number 3) ∙ k.many

  -- A step: a byte, its row, and what the row's bits are worth after those that are pending
  pub record Step (r : Row) (v : ℕ) : Type 0 where
    pub more : i < length s
    pub byte : get_or s i 0 < 256
    pub row_is : r ≡ row_at (left.rows + get_or s i 0)
    pub few : Small r
    pub value_is : v ≡ moved left.len r.coef0 r.coef1 r.coef2

  pub looked-up : {b v : ℕ} {r : Row} → i < length s → b ≡ get_or s i 0 → b < 256 → IsRow (left.rows + b) r → v ≡ moved left.len r.coef0 r.coef1 r.coef2 → Step r v
  looked-up more is byte row v = record { more = more; byte = rw (← is) byte; row_is = rw (← is) row.0; few = row.1; value_is = v }

  module _ {r : Row} {v : ℕ} (step : Step r v) where
    x : List Bool
    x = word_bits 8 (get_or s i 0)

    p : Parse Bool
    p = parse_byte k.run (get_or s i 0)

    p-is : p ≡ parse 3 (ones k.run ++ x)
    unfolding p x parse_byte
    p-is = refl

    row_of : r ≡ row_of_parse p
    unfolding p
    row_of = step.row_is ∙ ap (λ (m : ℕ). row_at (m + get_or s i 0)) k.at ∙ row-after k.run (get_or s i 0) step.byte

    -- the pending bits with the row's
    grown : (q : List Bool) → r.len ≡ length q → r.coef0 ≡ value0 q → r.coef1 ≡ value1 q + value2 q → r.coef2 ≡ value1 q → Known (k.body ++ q) (left.len + r.len) (left.value + v)
    grown q l a b c = rw (step.value_is, l, a, b, c) (pending-more k.body left.len left.value q k.pending)

    -- no codeword ends
    pub walked-open : r.count ≡ 0 → v < 2 ^ 43 → Walked limit s (i + 1) row count (after (record { len = min (left.len + r.len) 37; value = left.value + v; ones = r.rest.ones }))
    unfolding row_of_parse finishing remains
    walked-open none low =
        let e : p ≡ parsed [] (rest p) = open-parse p (sym (ap (λ (r : Row). r.count) row_of) ∙ none) in
        let f : r ≡ row_of_parse (parsed [] (rest p)) = row_of ∙ ap row_of_parse e in
        let q : List Bool = without_trailing (rest p) in
        record {
          words = k.words;
          body = k.body ++ q;
          run = trailing_ones (rest p);
          reached =
              reached-open k.reached x (8 * (i + 1)) (unfold x in bits-next s i step.more) q (trailing_ones (rest p)) (without-settled (rest p)) (trailing-few _ (rest p) [] (sym p-is ∙ e))
              (sym p-is ∙ e ∙ ap (parsed []) (without-trailing (rest p)));
          many = k.many;
          most = k.most;
          legal = k.legal;
          stored = k.stored;
          room = k.room;
          pending =
              pending-clamped _ (left.len + r.len) _
              (grown q (ap (λ (r : Row). r.len) f) (ap (λ (r : Row). r.coef0) f) (ap (λ (r : Row). r.coef1) f) (ap (λ (r : Row). r.coef2) f));
          clamped = omega arith;
          small = omega (arith, k.small);
          at = ap (λ (r : Row). 256 * r.rest.ones) f;
        }

    -- a codeword ends
    module _ (some : r.count ≡ 0 → ⊥) where
      cut : (w : List Bool) × (ws : List (List Bool)) × (p ≡ parsed (w ∷ ws) (rest p))
      cut = shut-parse p (λ e. some (ap (λ (r : Row). r.count) row_of ∙ (unfold row_of_parse in e)))

      abbrev q : List Bool
      q = finishing (parsed (cut.0 ∷ cut.1) (rest p))

      abbrev ended : List Bool
      ended = k.body ++ cut.0

      -- the numbers of the codewords inside the byte
      abbrev within : List ℕ
      within = map (number 3) cut.1

      row_cut : r ≡ row_of_parse (parsed (cut.0 ∷ cut.1) (rest p))
      row_cut = row_of ∙ ap row_of_parse cut.2

      parse-cut : parse 3 (ones k.run ++ x) ≡ parsed (cut.0 ∷ cut.1) (rest p)
      parse-cut = sym p-is ∙ cut.2

      reached-next : Reached 3 (unpack s) (8 * (i + 1)) (k.words ++ (ended ∷ cut.1)) (without_trailing (rest p)) (trailing_ones (rest p))
      reached-next =
          reached-shut k.reached x (8 * (i + 1)) (unfold x in bits-next s i step.more) (without_trailing (rest p)) (trailing_ones (rest p)) (without-settled (rest p)) (trailing-few _ (rest p) _ parse-cut)
          cut.0 cut.1 (parse-cut ∙ ap (parsed (cut.0 ∷ cut.1)) (without-trailing (rest p)))

      ended_is : ended ≡ (k.body ++ q) ++ ones 3
      ended_is = ap (λ (w : List Bool). k.body ++ w) (finishing-ones _ cut.0 (rest p) cut.1 parse-cut) ∙ sym (append_assoc k.body q (ones 3))

      pending-ended : Known (k.body ++ q) (left.len + r.len) (left.value + v)
      unfolding row_of_parse
      pending-ended = grown q (ap (λ (r : Row). r.len) row_cut) (ap (λ (r : Row). r.coef0) row_cut) (ap (λ (r : Row). r.coef1) row_cut) (ap (λ (r : Row). r.coef2) row_cut)

      ended-near : first 3 (left.len + r.len) ≤ max_number → number 3 ended ≡ first 3 (left.len + r.len) + (left.value + v)
      ended-near g = ap (number 3) ended_is ∙ pending-near _ _ _ pending-ended g

      ended-far : max_number < first 3 (left.len + r.len) → max_number < number 3 ended
      ended-far g = rw ended_is (pending-far _ _ _ pending-ended g)

      count-is : r.count ≡ suc (length within)
      unfolding row_of_parse
      count-is = ap (λ (r : Row). r.count) row_cut ∙ ap suc (sym (length-map cut.1 (number 3)))

      within-few : length within ≤ 2
      within-few = omega (arith, count-is, step.few.count)

      second_is : r.second ≡ get_or within 0 0
      unfolding row_of_parse inside_numbers
      second_is = ap (λ (r : Row). r.second) row_cut

      third-is : r.third ≡ get_or within 1 0
      unfolding row_of_parse inside_numbers
      third-is = ap (λ (r : Row). r.third) row_cut

      within-pos : Positive within
      within-pos = coded-positive 3 cut.1

      ended-pos : 1 ≤ number 3 ended
      ended-pos = number-positive 3 ended

      next-numbers : map (number 3) (k.words ++ (ended ∷ cut.1)) ≡ done ++ (number 3 ended ∷ within)
      next-numbers = map-append (number 3) k.words (ended ∷ cut.1)

      all-numbers : (later : List ℕ) × (numbers 3 (unpack s) ≡ (done ++ (number 3 ended ∷ within)) ++ later)
      all-numbers = let t = reached-numbers reached-next in (t.0, t.1 ∙ ap (λ (l : List ℕ). l ++ t.0) next-numbers)

      -- it is one too many
      pub walked_many : max_count ≤ count → contents (fibonacci 3) limit s ≡ Err TooManyCodewords
      walked_many f =
          contents-many (fibonacci 3) limit s done k.legal (number 3 ended) (within ++ all-numbers.0) (all-numbers.1 ∙ append_assoc done (number 3 ended ∷ within) all-numbers.0)
          (omega (arith, done-long, k.most))

      -- n was found for its number
      module _ (n : ℕ) (is : NumberOf 3 (left.len + r.len) (left.value + v) n) (top : limit ≤ max_number) where
        -- n is legal where the number is
        alike : is_number limit n ≡ is_number limit (number 3 ended)
        alike = by (is_number limit n) refl
          where
            by : (t : Bool) → is_number limit n ≡ t → is_number limit n ≡ is_number limit (number 3 ended)
            by true e = ap (is_number limit) (numbered-legal 3 _ _ n is (number 3 ended) ended-near ended-far limit top e)
            by false e = e ∙ sym (above-number limit (number 3 ended) ended-pos (numbered-large 3 _ _ n is (number 3 ended) ended-near ended-far limit top e))

        judged-within : judged count (is_number limit n) r.second r.third limit ≡ judged (length done) (is_number limit (number 3 ended)) (get_or within 0 0) (get_or within 1 0) limit
        judged-within = judged-same limit (sym done-long) alike second_is third-is

        pub walked-fault : (q : Refusal) → judged count (is_number limit n) r.second r.third limit ≡ Err q → contents (fibonacci 3) limit s ≡ Err q
        walked-fault q j =
            judged-fault limit s done k.legal (number 3 ended) ended-pos within within-few within-pos all-numbers.0 all-numbers.1 q (sym judged-within ∙ j)

        -- all that end pass
        module _ (good : judged count (is_number limit n) r.second r.third limit ≡ Ok tt) where
          legal : Legal limit (number 3 ended ∷ within)
          legal = judged-passed limit (number 3 ended) ended-pos within within-few within-pos (length done) (sym judged-within ∙ good)

          n-is : n ≡ number 3 ended
          n-is = numbered-legal 3 _ _ n is (number 3 ended) ended-near ended-far limit top (alike ∙ legal.0)

          next-legal : Legal limit (done ++ (number 3 ended ∷ within))
          next-legal = all_append (λ n. is_number limit n ≡ true) done (number 3 ended ∷ within) k.legal legal

          next-long : length (done ++ (number 3 ended ∷ within)) ≡ count + r.count
          next-long = omega (arith, length-append done (number 3 ended ∷ within), done-long, count-is)

          -- those inside the byte are too many
          walked-past : max_count < count + r.count → contents (fibonacci 3) limit s ≡ Err TooManyCodewords
          walked-past f = contents-past (fibonacci 3) limit s (done ++ (number 3 ended ∷ within)) next-legal all-numbers.0 all-numbers.1 (omega (arith, next-long))

          abbrev new : List ℕ
          new = n ∷ r.second ∷ r.third ∷ []

          walked-room : length (sets row count new) ≡ 4098
          walked-room = length-sets row count new ∙ k.room

          kept-is : count + r.count ≤ max_count → take (count + r.count) (sets row count new) ≡ done ++ (number 3 ended ∷ within)
          kept-is f =
              taken row new count r.count (omega (arith, k.room, count-is)) step.few.count
              ∙ ap₂ ◌++◌ k.stored (ap (λ (c : ℕ). take c new) count-is
              ∙ first_three n-is second_is third-is (length within) ∙ ap (λ (l : List ℕ). number 3 ended ∷ l) (few-are within within-few))

          shut : count + r.count ≤ max_count
              → Walked limit s (i + 1) (sets row count (n ∷ r.second ∷ r.third ∷ [])) (count + r.count) (after r.rest)
          unfolding row_of_parse remains
          shut f =
              rw (ap (λ (r : Row). r.rest) row_cut) (record {
                words = k.words ++ (ended ∷ cut.1);
                body = without_trailing (rest p);
                run = trailing_ones (rest p);
                reached = reached-next;
                many = sym (length-map (k.words ++ (ended ∷ cut.1)) (number 3)) ∙ ap length next-numbers ∙ next-long;
                most = f;
                legal = rw next-numbers next-legal;
                stored = kept-is f ∙ sym next-numbers;
                room = walked-room;
                pending = pending-left (without_trailing (rest p)) (omega (arith, ap (λ (r : Row). r.rest.len) row_cut, step.few.rest_len));
                clamped = omega (arith, ap (λ (r : Row). r.rest.len) row_cut, step.few.rest_len);
                small = omega (arith, ap (λ (r : Row). r.rest.value) row_cut, step.few.rest_value);
                at = refl;
              })

        -- those that end are stored
        pub walked-shut : (next : ℕ) (list : List ℕ) → Ok next ≡ stored count (is_number limit n) r limit → list ≡ sets row count (n ∷ r.second ∷ r.third ∷ [])
            → Walked limit s (i + 1) list next (after r.rest)
        walked-shut next list e l =
            let q = then-passed (judged count (is_number limit n) r.second r.third limit) _ next (sym e) in
            let t = check-passed TooManyCodewords (ltb max_count (count + r.count)) _ next q.2 in
            rw (l, ← accepted-one t.1) (shut q.1 (ltb-false max_count (count + r.count) t.0))

        -- or refused
        pub walked-refused : (q : Refusal) → Err q ≡ stored count (is_number limit n) r limit → contents (fibonacci 3) limit s ≡ Err q
        walked-refused q e = judged-by (judged count (is_number limit n) r.second r.third limit) refl (sym e)
          where
            judged-by : (j : Outcome (Unit {0})) → judged count (is_number limit n) r.second r.third limit ≡ j
                → and_then j (λ x. check TooManyCodewords (ltb max_count (count + r.count)) (Ok (count + r.count))) ≡ Err q → contents (fibonacci 3) limit s ≡ Err q
            judged-by (Err p) d e = rw (← refused-one e) (walked-fault p d)
            judged-by (Ok x) d e =
                elim (dec_le (count + r.count) max_count) [
                  | yes l ↦ absurd (not-both (sym (rw (le-ltb max_count (count + r.count) l) at e)))
                  | no l ↦
                      let more : max_count < count + r.count = omega arith in
                      let is : TooManyCodewords ≡ q = refused-one (rw (lt-ltb max_count (count + r.count) more) at e) in
                      rw (← is) (walked-past d more)
                ]

  -- the bytes are all read, and the pending bits are the rest
  module _ (h : length s ≤ i) where
    rest-is : parse 3 (unpack s) ≡ parsed k.words (k.body ++ ones k.run)
    rest-is = reached-end 3 (unpack s) (8 * i) k.words k.body k.run (omega (arith, unpack-length s)) k.reached

    far : 8 ≤ left.len → 8 ≤ length k.body
    far l = elim (dec_le 37 left.len) [ yes f ↦ omega (arith, k.pending.far f) | no f ↦ omega (arith, (k.pending.near (omega arith)).0) ]

    near : left.len < 8 → (length k.body ≡ left.len) × (left.value ≡ value0 k.body)
    near l = k.pending.near (omega arith)

    padding : is_padding left.len left.value left.rows ≡ is_padding left.len left.value k.run
    padding = ap (λ (t : Bool). ltb left.len 8 && (eqb left.value 0 && t)) (rows-none k.run k.at)

    pub walked-padding : is_padding left.len left.value left.rows ≡ true → Scanned (contents (fibonacci 3) limit s) (Ok count) row
    walked-padding e =
        let t = padding-is 3 k.body left.len left.value k.run (omega arith) near far (sym padding ∙ e) in
        rw (contents-good limit 3 s done k.legal k.words _ rest-is refl (omega (arith, done-long, k.most)) t.0 t.1)
        (ap Ok (sym done-long), ap (λ (n : ℕ). take n row) done-long ∙ k.stored)

    pub walked-rest : is_padding left.len left.value left.rows ≡ false → Scanned (contents (fibonacci 3) limit s) (Err BadRest) row
    walked-rest e =
        refuses _ _ row (contents-rest limit 3 s done k.legal k.words _ rest-is refl (omega (arith, done-long, k.most))
        (padding-not 3 k.body left.len left.value k.run (omega arith) near far (sym padding ∙ e)))
