-- The scan of an encoding, codeword by codeword: what is known between two of them, and what the encoding is refused for.
use mathlib.Core.Path.{◌≡◌, refl, sym, ap, subst, ◌∙◌}
use mathlib.Core.Bool.{Bool, true}
use mathlib.Core.List.{List, [], ◌∷◌, ◌++◌, append_assoc, append-nil, map}
use Prim.Native.Nat.{ℕ, suc, ◌+◌, ◌-◌, ◌≤◌, ◌<◌, min}
use native.Mathlib.Omega.{arith}
use native.Mathlib.Numerals.{add-one}
use native.Mathlib.Decide.{dec_le}
use lib.Dec.{leb}
use lib.ListN.{length, get_or, take, drop, set, length-take, length-drop, drop_of_length-le, take-append-drop, get_or-append}
use lib.Seq.{length-take-le, take-suc-set, get_or-drop, drop-append-le}
use borrow.Author.Tests.{le-leb, lt-leb}
use Rattle.std.specs.Prelude.{Some, None, Ok, Err}
use Rattle.lists.proofs.Each.{all_append}
use Rattle.codes.specs.Rows.{Positive}
use Rattle.codes.specs.Parse.{Parse, codewords, rest}
use Rattle.calls.specs.declared.Refusal.{Refusal}
use Rattle.calls.specs.declared.Refusal.TheVariants.{TooManyCodewords, TooLarge, Unfinished}
use Rattle.calls.specs.Calls.{check}
use Rattle.calls.specs.Limits.{is_number, Legal, max_count}
use Rattle.calls.specs.Reading.{contents, decode}
use Rattle.calls.specs.Leaves.{Scanned}
use Rattle.calls.proofs.Checks.{is-number}
use Rattle.calls.proofs.Decoding.{decode-contents, contents-many, contents-large, contents-end}
use Rattle.dense.specs.Code.{number}
use Rattle.dense.specs.Encoding.{Rest, parse, numbers}
use Rattle.dense.specs.Limits.{continuers, max_dense_bytes}
use Rattle.dense.proofs.Parse.{parse-rest, parse-finished}
use Rattle.dense.proofs.Rows.{numbers-positive}
use Rattle.dense_decoder.specs.Reading.{dense}
use Rattle.dense_decoder.specs.Leaves.{Finished, FinishedFrom, Front}
use Rattle.dense_decoder.proofs.Front.{finished-some}

-- ## The codewords of an encoding, and the rest

rest-from : (s : ℕ) (l : List ℕ) → ((k : ℕ) → k < length l → s ≤ get_or l k 0) → Rest s l
rest-from s [] h = tt
rest-from s (x ∷ l) h = (h 0 (omega arith), rest-from s l (λ k g. h (suc k) (omega arith)))

parts : (s : ℕ) (b tail : List ℕ) → Finished s b → Rest s tail
    → let c = continuers s in (numbers s c (b ++ tail) ≡ numbers s c b) × (rest (parse s (b ++ tail)) ≡ tail)
unfolding numbers parse
parts s [] tail f go = let e = parse-rest s tail go in (ap (λ (p : Parse ℕ). map (number s (continuers s)) (codewords p)) e, ap rest e)
parts s (x ∷ b) tail f go =
    let k : suc (length b) - 1 ≡ length b = omega arith in
    let (w, ws, alone, before) = parse-finished s x b tail (rw k at f) go in
    (ap (λ (p : Parse ℕ). map (number s (continuers s)) (codewords p)) before ∙ sym (ap (λ (p : Parse ℕ). map (number s (continuers s)) (codewords p)) alone), ap rest before)

-- b is the codewords of an encoding, and behind them is no stopper
pub record Parted (s : ℕ) (whole b : List ℕ) : Type 0 where
  pub same : numbers s (continuers s) whole ≡ numbers s (continuers s) b
  pub left : rest (parse s whole) ≡ drop (length b) whole
  pub inside : length b ≤ length whole
  pub finished : Finished s b
  pub joined : whole ≡ b ++ drop (length b) whole
  pub behind : Rest s (drop (length b) whole)

pub parted : (s : ℕ) (whole b : List ℕ) → Finished s b → b ≡ take (length b) whole
    → ((k : ℕ) → length b ≤ k → k < length whole → s ≤ get_or whole k 0) → Parted s whole b
parted s whole b f front behind =
    let tail : List ℕ = drop (length b) whole in
    let go : Rest s tail =
    rest-from s tail
    (λ k h. subst (λ (x : ℕ). s ≤ x) (sym (get_or-drop (length b) whole k 0)) (behind (length b + k) (omega arith) (omega (arith, length-drop (length b) whole)))) in
    let all : whole ≡ b ++ tail = sym (take-append-drop (length b) whole) ∙ ap (λ (l : List ℕ). l ++ tail) (sym front) in
    let p = parts s b tail f go in
    record {
      same = ap (numbers s (continuers s)) all ∙ p.0;
      left = ap (λ (l : List ℕ). rest (parse s l)) all ∙ p.1;
      inside = omega (arith, ap length front, length-take (length b) whole);
      finished = f;
      joined = all;
      behind = go;
    }

-- ## Between two codewords

-- from byte i of b on codewords are still to be read; the row has the numbers of those before, and they are legal
pub record Stored (s limit : ℕ) (b row : List ℕ) (i count : ℕ) : Type 0 where
  pub come : numbers s (continuers s) b ≡ take count row ++ numbers s (continuers s) (drop i b)
  pub left : rest (parse s b) ≡ rest (parse s (drop i b))
  pub legal : Legal limit (take count row)
  pub many : count ≤ max_count
  pub few : count ≤ i
  pub within : i ≤ length b

pub stored-none : (s limit : ℕ) (b row : List ℕ) → Stored s limit b row 0 0
stored-none s limit b row = record { come = refl; left = refl; legal = tt; many = omega arith; few = omega arith; within = omega arith }

module _ (s limit : ℕ) (b row : List ℕ) (i count : ℕ) (room : min max_count (length b) ≤ length row) (w : Stored s limit b row i count) where
  abbrev c : ℕ
  c = continuers s

  abbrev done : List ℕ
  done = take count row

  held : length done ≡ count
  held = length-take-le count row (omega (arith, w.many, w.few, w.within))

  -- ## A codeword more

  module _ (less : count < max_count) (h : i < length b) where
    pub stored-room : count < length row
    stored-room = omega (arith, w.few)

    module _ (n after : ℕ) (f : Front s limit b (drop i b) (Some (n, after))) where
      pub stored-later : i < after
      stored-later = omega (arith, f.1, f.2, length-drop after b, length-drop i b)

      pub stored_more : Stored s limit b (set row count n) after (count + 1)
      stored_more =
          let new : take (count + 1) (set row count n) ≡ done ++ (n ∷ []) = rw add-one (take-suc-set row count n stored-room) in
          let positive : Positive (n ∷ numbers s c (drop after b)) = rw f.3 at (numbers-positive s c (drop i b)) in
          record {
            come =
                w.come ∙ ap (λ (l : List ℕ). done ++ l) f.3 ∙ sym (append_assoc done (n ∷ []) (numbers s c (drop after b)))
                ∙ ap (λ (l : List ℕ). l ++ numbers s c (drop after b)) (sym new);
            left = w.left ∙ f.4;
            legal = rw new (all_append (λ k. is_number limit k ≡ true) done (n ∷ []) w.legal (is-number limit n positive.0 f.0, tt));
            many = omega arith;
            few = omega (arith, w.few, stored-later);
            within = f.1;
          }

  -- ## Refusals

  pub stored-large : count < max_count → Front s limit b (drop i b) None → contents (dense s) limit b ≡ Err (TooLarge count)
  stored-large less (n, ns, e, l) =
      contents-large (dense s) limit b done w.legal n ns (w.come ∙ ap (λ (l : List ℕ). done ++ l) e) (omega (arith, held)) l
      ∙ ap (λ (k : ℕ). Err (TooLarge k)) held

  pub stored-many : count ≡ max_count → FinishedFrom s b i → contents (dense s) limit b ≡ Err TooManyCodewords
  stored-many full f =
      let (n, ns, e) = finished-some s b i f in
      contents-many (dense s) limit b done w.legal n ns (w.come ∙ ap (λ (l : List ℕ). done ++ l) e) (held ∙ full)

  -- ## The end

  -- no codeword is left, and all that is left is the rest
  module _ (go : Rest s (drop i b)) where
    ended : contents (dense s) limit b ≡ check Unfinished (leb 1 (length (rest (parse s b)))) (Ok done)
    unfolding numbers
    ended =
        let e : numbers s c (drop i b) ≡ [] = ap (λ (p : Parse ℕ). map (number s c) (codewords p)) (parse-rest s (drop i b) go) in
        contents-end (dense s) limit b done w.legal (w.come ∙ ap (λ (l : List ℕ). done ++ l) e ∙ append-nil done) (omega (arith, held, w.many))

    remains : length (rest (parse s b)) ≡ length b - i
    remains = ap length (w.left ∙ ap rest (parse-rest s (drop i b) go)) ∙ length-drop i b

    pub stored-open : i < length b → contents (dense s) limit b ≡ Err Unfinished
    stored-open h =
        ended ∙ ap (λ (t : Bool). check Unfinished t (Ok done)) (le-leb 1 (length (rest (parse s b))) (omega (arith, remains)))

    pub stored-all : length b ≤ i → (contents (dense s) limit b ≡ Ok done) × (length done ≡ count)
    stored-all h =
        (ended ∙ ap (λ (t : Bool). check Unfinished t (Ok done)) (lt-leb 1 (length (rest (parse s b))) (omega (arith, remains))), held)

-- ## What is answered

-- what is stored of its codewords is stored of the encoding
module _ {s limit : ℕ} {whole b row : List ℕ} {i count : ℕ} (p : Parted s whole b) (w : Stored s limit b row i count) where
  abbrev tail : List ℕ
  tail = drop (length b) whole

  onward : drop i whole ≡ drop i b ++ tail
  onward = ap (drop i) p.joined ∙ drop-append-le i b tail w.within

  onward-finished : Finished s (drop i b)
  onward-finished =
      elim (dec_le (length b) i) [
        | yes l ↦ let some : 0 < s = omega (arith, p.finished) in rw (drop_of_length-le b {i = i} l) some
        | no l ↦
            let last : i + (length (drop i b) - 1) ≡ length b - 1 = omega (arith, length-drop i b) in
            rw (get_or-drop i b (length (drop i b) - 1) 0, last) p.finished
      ]

  onward-parts : (numbers s (continuers s) (drop i whole) ≡ numbers s (continuers s) (drop i b)) × (rest (parse s (drop i whole)) ≡ tail)
  onward-parts =
      let q = parts s (drop i b) tail onward-finished p.behind in
      (ap (numbers s (continuers s)) onward ∙ q.0, ap (λ (l : List ℕ). rest (parse s l)) onward ∙ q.1)

  pub stored-whole : Stored s limit whole row i count
  stored-whole =
      record {
        come = p.same ∙ w.come ∙ ap (λ (l : List ℕ). take count row ++ l) (sym onward-parts.0);
        left = p.left ∙ sym onward-parts.1;
        legal = w.legal;
        many = w.many;
        few = w.few;
        within = omega (arith, w.within, p.inside);
      }

  module _ (room : min max_count (length whole) ≤ length row) (short : length whole ≤ max_dense_bytes) where
    refused : (r : Refusal) → contents (dense s) limit whole ≡ Err r → Scanned (decode (dense s) limit whole) (Err r) row
    refused r e = rw (decode-contents (dense s) limit whole short, e) (refl, tt)

    pub scanned-large : count < max_count → Front s limit b (drop i b) None → Scanned (decode (dense s) limit whole) (Err (TooLarge count)) row
    scanned-large less (n, ns, e, l) =
        refused (TooLarge count) (stored-large s limit whole row i count room stored-whole less (n, ns, onward-parts.0 ∙ e, l))

    pub scanned-many : count ≡ max_count → i < length b → Scanned (decode (dense s) limit whole) (Err TooManyCodewords) row
    scanned-many full h =
        let last : get_or whole (length b - 1) 0 < s = rw (p.joined, get_or-append b tail 0 (length b - 1) (omega arith)) p.finished in
        refused TooManyCodewords
        (stored-many s limit whole row i count room stored-whole full (length b - 1, omega arith, omega (arith, p.inside), last))

    -- no codeword is left, and what is left is the rest
    module _ (end : length b ≤ i) where
      behind : Rest s (drop i whole)
      behind = let same : i ≡ length b = omega (arith, w.within) in rw same p.behind

      pub scanned-open : i < length whole → Scanned (decode (dense s) limit whole) (Err Unfinished) row
      scanned-open h = refused Unfinished (stored-open s limit whole row i count room stored-whole behind h)

      pub scanned-all : length whole ≤ i → Scanned (decode (dense s) limit whole) (Ok count) row
      scanned-all h =
          let (e, held) = stored-all s limit whole row i count room stored-whole behind h in
          rw (decode-contents (dense s) limit whole short, e) (ap Ok (sym held), ap (λ (k : ℕ). take k row) held)
