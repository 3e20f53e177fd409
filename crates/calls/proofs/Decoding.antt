-- Reading by any code: what its contents are refused for, what is known of an encoding that is read, and how its row goes to the output.
use mathlib.Core.Path.{◌≡◌, refl, sym, ap, ap₂, ◌∙◌}
use mathlib.Core.Bool.{Bool, true, false, not}
use mathlib.Core.List.{List, ◌∷◌, ◌++◌}
use Prim.Native.Nat.{ℕ, ◌≤◌, ◌<◌}
use native.Mathlib.Omega.{arith}
use lib.Dec.{ltb}
use lib.ListN.{length, take, drop, length-take}
use borrow.Author.Tests.{lt-ltb, le-ltb, ltb-false, not-false}
use Rattle.lists.specs.Lists.{All}
use Rattle.calls.specs.declared.Refusal.{Refusal}
use Rattle.calls.specs.declared.Refusal.TheVariants.{TooManyBytes, TooManyCodewords, NoRoom, TooLarge}
use Rattle.calls.specs.Calls.{Outcome, answer_results, check, and_then, buffer}
use Rattle.calls.specs.Limits.{Legal, max_count}
use Rattle.calls.specs.Reading.{Code, contents, decode, counted}
use Rattle.calls.specs.Leaves.{Scanned, Delivers}
use Rattle.calls.proofs.Checks.{not-both, accepted-one, refused-same, check-passed, then-passed}
use Rattle.calls.proofs.Finished.{finished-all, finished-many, finished-large, finished-past, finished-passed}
use Rattle.std.specs.Prelude.{Ok, Err}

-- ## The check of the length

module _ (c : Code) (limit : ℕ) (s : List ℕ) where
  pub decode-long : c.byte_limit < length s → decode c limit s ≡ Err TooManyBytes
  unfolding decode
  decode-long h = simp (lt-ltb c.byte_limit (length s) h)

  pub decode-contents : length s ≤ c.byte_limit → decode c limit s ≡ contents c limit s
  unfolding decode
  decode-contents h = simp (le-ltb c.byte_limit (length s) h)

-- ## What the contents are refused for

-- The numbers `done` have passed their checks, and what comes after them decides
module _ (c : Code) (limit : ℕ) (s done : List ℕ) (legal : Legal limit done) where
  pub contents-many : (x : ℕ) (more : List ℕ) → c.numbers s ≡ done ++ (x ∷ more) → length done ≡ max_count → contents c limit s ≡ Err TooManyCodewords
  unfolding contents
  contents-many x more e l = rw e (finished-many limit done legal _ x more l)

  pub contents-large : (x : ℕ) (more : List ℕ) → c.numbers s ≡ done ++ (x ∷ more) → length done < max_count → limit < x
      → contents c limit s ≡ Err (TooLarge (length done))
  unfolding contents
  contents-large x more e l n = rw e (finished-large limit done legal _ x more l n)

  pub contents-past : (more : List ℕ) → c.numbers s ≡ done ++ more → max_count < length done → contents c limit s ≡ Err TooManyCodewords
  unfolding contents
  contents-past more e l = rw e (finished-past limit 0 done more _ legal (omega arith) (omega arith))

  -- no codeword is left, and what remains decides
  pub contents-end : c.numbers s ≡ done → length done ≤ max_count → contents c limit s ≡ check c.fault (c.unfinished s) (Ok done)
  unfolding contents
  contents-end e l = rw e (finished-all limit done _ legal l)

-- ## What is known of an encoding that is read

pub record Decoded (c : Code) (limit : ℕ) (s row : List ℕ) : Type 0 where
  pub bytes : length s ≤ c.byte_limit
  pub is : row ≡ c.numbers s
  pub legal : Legal limit row
  pub long : length row ≤ max_count
  pub finished : c.unfinished s ≡ false

module _ (c : Code) (limit : ℕ) (s row : List ℕ) where
  -- a code's numbers are from 1 up
  pub decode_is : All (λ n. 1 ≤ n) (c.numbers s) → decode c limit s ≡ Ok row → Decoded c limit s row
  unfolding decode contents
  decode_is positive e =
      let p2 = check-passed TooManyBytes (ltb c.byte_limit (length s)) _ row e in
      let p47 = finished-passed limit 0 (c.numbers s) _ row positive (omega arith) p2.1 in
      let p6 = check-passed c.fault (c.unfinished s) _ row p47.2 in
      let same : row ≡ c.numbers s = accepted-one (sym p6.1) in
      record {
        bytes = ltb-false c.byte_limit (length s) p2.0;
        is = same;
        legal = rw same p47.0;
        long = rw same (omega (arith, p47.1));
        finished = p6.0;
      }

  pub decode-accepts : Decoded c limit s row → decode c limit s ≡ Ok row
  decode-accepts d =
      decode-contents c limit s d.bytes ∙ contents-end c limit s row d.legal (sym d.is) d.long
      ∙ ap (λ (t : Bool). check c.fault t (Ok row)) d.finished

-- ## The row and the output

-- What a scan has stored, where it accepts: a list that begins with the row has room for it
pub stored_row : (d : Outcome (List ℕ)) (list : List ℕ) (n : ℕ) → Scanned d (Ok n) list → (d ≡ Ok (take n list)) × (n ≡ length (take n list)) × (n ≤ length list)
stored_row (Ok row) list n s =
    let e : n ≡ length row = accepted-one s.0 in
    rw (e, s.1) (refl, refl, omega (arith, ap length s.1, length-take (length row) list))
stored_row (Err r) list n s = absurd (not-both (sym s.0))

-- .. and a refusal is that of the scan
pub scan-refused : (d : Outcome (List ℕ)) (list : List ℕ) (r : Refusal) → Scanned d (Err r) list → d ≡ Err r
scan-refused (Ok row) list r s = absurd (not-both s.0)
scan-refused (Err q) list r s = sym (refused-same s.0)

-- what is handed over is as much of the list as was counted
kept-as : (t : Bool) (n : ℕ) (list before : List ℕ) (a : Outcome ℕ) → a ≡ check NoRoom t (Ok n)
    → buffer a (take (answer_results 0 a) list) before ≡ buffer a (take n list) before
kept-as true n list before a e = rw e refl
kept-as false n list before a e = rw e refl

-- ## A call that checks what it was asked for, and reads

-- `good` is its check, which is refused as r
module _ (r : Refusal) (good : Bool) (c : Code) (limit : ℕ) (s : List ℕ) where
  abbrev called : ℕ → Outcome ℕ
  called room = check r (not good) (and_then (decode c limit s) (counted room))

  abbrev leaves : List ℕ → List ℕ
  leaves before = buffer (called (length before)) (c.numbers s) before

  pub called_is : (room n : ℕ) → called room ≡ Ok n
      → (good ≡ true) × ((row : List ℕ) × (decode c limit s ≡ Ok row) × (n ≡ length row) × (length row ≤ room))
  called_is room n e =
      let p = check-passed r (not good) _ n e in
      let t = then-passed (decode c limit s) (counted room) n p.1 in
      let q = check-passed NoRoom (ltb room (length t.0)) _ n t.2 in
      (not-false good p.0, (t.0, t.1, sym (accepted-one q.1), ltb-false room (length t.0) q.0))

  module _ (before : List ℕ) where
    pub called-refused : good ≡ false → (Err r ≡ called (length before)) × (before ≡ leaves before)
    called-refused g = rw g (refl, refl)

    module _ (g : good ≡ true) (positive : All (λ n. 1 ≤ n) (c.numbers s)) where
      pub called-row : (row : List ℕ) → decode c limit s ≡ Ok row → length row ≤ length before
          → (called (length before) ≡ Ok (length row)) × (leaves before ≡ row ++ drop (length row) before)
      called-row row e h =
          rw (g, e, ← (decode_is c limit s row positive e).is) (simp (le-ltb (length before) (length row) h) (refl, refl))

      -- a scan's row, delivered, is what reading answers and leaves
      pub called-delivered : (list after : List ℕ) (n : ℕ) (a : Outcome ℕ) → Scanned (decode c limit s) (Ok n) list
          → a ≡ counted (length before) (take n list) → after ≡ buffer a (take n list) before → (a ≡ called (length before)) × (after ≡ leaves before)
      called-delivered list after n a f w x =
          let d = stored_row _ list n f in
          let same : a ≡ called (length before) = rw (g, d.0) w in
          (same, x ∙ ap₂ (λ (o : Outcome ℕ) (row : List ℕ). buffer o row before) same (decode_is c limit s (take n list) positive d.0).is)

      -- .. and so is its refusal
      pub called-scan : (list : List ℕ) (q : Refusal) → Scanned (decode c limit s) (Err q) list → (Err q ≡ called (length before)) × (before ≡ leaves before)
      called-scan list q f = rw (g, scan-refused _ list q f) (refl, refl)

      -- .. so whatever a scan answers, what is handed over of its list is what reading answers and leaves
      pub called-delivers : (list after : List ℕ) (scanned a : Outcome ℕ) → Scanned (decode c limit s) scanned list → Delivers scanned list before a after
          → (a ≡ called (length before)) × (after ≡ leaves before)
      called-delivers list after (Ok n) a f w =
          let long : n ≡ length (take n list) = (stored_row _ list n f).1 in
          let same : a ≡ counted (length before) (take n list) = w.0 ∙ ap (λ (k : ℕ). check NoRoom (ltb (length before) k) (Ok k)) long in
          called-delivered list after n a f same (w.1 ∙ kept-as (ltb (length before) n) n list before a w.0)
      called-delivers list after (Err q) a f w =
          let e = called-scan list q f in
          let none : buffer a (take (answer_results 0 a) list) before ≡ before = rw w.0 refl in
          (w.0 ∙ e.0, w.1 ∙ none ∙ e.1)

  -- what is accepted is the numbers of the code, and their count
  pub called-returns : All (λ n. 1 ≤ n) (c.numbers s) → (before : List ℕ) (n : ℕ) → called (length before) ≡ Ok n
      → (n ≡ length (c.numbers s)) × (leaves before ≡ c.numbers s ++ drop n before)
  called-returns positive before n e =
      let i = called_is (length before) n e in
      let row = i.1.0 in
      let same : row ≡ c.numbers s = (decode_is c limit s row positive i.1.1).is in (
        i.1.2 ∙ ap length same,
        (called-row before i.0 positive row i.1.1 i.1.3).1 ∙ ap₂ (λ (x : List ℕ) (k : ℕ). x ++ drop k before) same (sym i.1.2),
      )
