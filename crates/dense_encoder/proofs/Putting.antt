-- Codewords put into a buffer from their last byte back, and rows from their last number back.
use mathlib.Core.Path.{◌≡◌, refl, sym, ap, ap₂, subst, ◌∙◌}
use mathlib.Core.List.{List, [], ◌∷◌, ◌++◌, append_assoc, append-nil, flatten}
use Prim.Native.Nat.{ℕ, zero, suc, ◌+◌, ◌-◌, ◌/◌, ◌%◌, ◌≤◌, ◌<◌}
use native.Mathlib.Omega.{arith}
use native.Mathlib.Nat.{div-le_self}
use lib.ListN.{length, get_or, set, take, drop, length-append, length-drop, take-append-drop}
use lib.Seq.{length-take-le, take-length, drop-length, take-suc, drop-cons, take-take, take-append-le, take-append_seam, drop_at, get_or-append_seam}
use Rattle.calls.specs.Limits.{Legal, max_number}
use Rattle.calls.proofs.Checks.{number_is, legal-at}
use Rattle.dense.specs.Code.{stem, codeword}
use Rattle.dense.specs.Encoding.{encoding}
use Rattle.dense.proofs.Numbers.{stem-none, stem-next, stem-grows}
use Rattle.dense.proofs.Rows.{encoding-append}
use Rattle.dense_encoder.specs.Leaves.{PutBefore}

-- ## A codeword

-- a byte before those that stand behind it
set-before : (before t : List ℕ) (k x : ℕ) → k < length before → set (take (suc k) before ++ t) k x ≡ take k before ++ (x ∷ t)
set-before [] t k x h = absurd (omega arith)
set-before (b ∷ before) t zero x h = refl
set-before (b ∷ before) t (suc k) x h = ap (λ (l : List ℕ). b ∷ l) (set-before before t k x (omega arith))

-- from place `at` up to `end` stand the last bytes of the codeword of n, and string y is still to come before them
pub record Putting (s c n : ℕ) (before : List ℕ) (end : ℕ) (out : List ℕ) (at y : ℕ) : Type 0 where
  pub put : List ℕ
  pub is : out ≡ take at before ++ (put ++ drop end before)
  pub long : at + length put ≡ end
  pub left : stem s c n y put ≡ codeword s c n
  pub few : y ≤ n

pub putting-start : (s c n : ℕ) (before : List ℕ) (end y v : ℕ) → 1 ≤ end → end ≤ length before → {base : ℕ} → base ≡ s
    → (y ≡ (n - 1) / base) × (v ≡ (n - 1) % base) → Putting s c n before end (set before (end - 1) v) (end - 1) y
unfolding codeword
putting-start s c n before end y v h fits b d =
    let k : suc (end - 1) ≡ end = omega arith in
    let all : take (suc (end - 1)) before ++ drop end before ≡ before = rw k (take-append-drop end before) in
    record {
      put = v ∷ [];
      is = ap (λ (l : List ℕ). set l (end - 1) v) (sym all) ∙ set-before before (drop end before) (end - 1) v (omega arith);
      long = omega arith;
      left = rw (d.0, d.1, b) refl;
      few = omega (arith, rw b at d.0, div-le_self (n - 1) s);
    }

module _ {s c n : ℕ} {before : List ℕ} {end : ℕ} {out : List ℕ} {at y : ℕ} (p : Putting s c n before end out at y) where
  next : 1 ≤ y → stem s c n ((y - 1) / c) ((s + (y - 1) % c) ∷ p.put) ≡ codeword s c n
  next h =
      let k : suc (y - 1) ≡ y = omega arith in
      sym (stem-next s c n (y - 1) p.put (omega (arith, p.few))) ∙ ap (λ (z : ℕ). stem s c n z p.put) k ∙ p.left

  -- string y is not empty, and there is room for its last byte
  pub putting-room : 1 ≤ y → length (codeword s c n) ≤ end → 1 ≤ at
  putting-room h l = omega (arith, p.long, ap length (next h), stem-grows s c n ((y - 1) / c) ((s + (y - 1) % c) ∷ p.put))

  pub putting-more : (z v : ℕ) → 1 ≤ y → length (codeword s c n) ≤ end → end ≤ length before → {high base : ℕ} → high ≡ s → base ≡ c
      → (z ≡ (y - 1) / base) × (v ≡ (y - 1) % base) → Putting s c n before end (set out (at - 1) (high + v)) (at - 1) z
  putting-more z v h l fits {high} e b d =
      let r = putting-room h l in
      let k : suc (at - 1) ≡ at = omega arith in
      let t : List ℕ = p.put ++ drop end before in
      record {
        put = (high + v) ∷ p.put;
        is =
            ap (λ (o : List ℕ). set o (at - 1) (high + v)) (p.is ∙ ap (λ (j : ℕ). take j before ++ t) (sym k))
            ∙ set-before before t (at - 1) (high + v) (omega (arith, p.long));
        long = omega (arith, p.long);
        left = rw (d.0, d.1, e, b) (next h);
        few = omega (arith, rw b at d.0, div-le_self (y - 1) c, p.few);
      }

  pub putting-done : y ≡ 0 → PutBefore (codeword s c n) end at before out
  putting-done e =
      let w : p.put ≡ codeword s c n = sym (stem-none s c n p.put) ∙ ap (λ (z : ℕ). stem s c n z p.put) (sym e) ∙ p.left in
      rw (← w) (p.long, p.is)

-- at the end of the buffer nothing is behind it
pub putting-end : {s c n : ℕ} {before out : List ℕ} {at y : ℕ} → Putting s c n before (length before) out at y → y ≡ 0
    → (at + length (codeword s c n) ≡ length before) × (out ≡ take at before ++ codeword s c n)
putting-end {s} {c} {n} {before} {out} {at} p e =
    let (long, is) = putting-done p e in
    let last : codeword s c n ++ drop (length before) before ≡ codeword s c n =
    ap (λ (l : List ℕ). codeword s c n ++ l) (drop-length before) ∙ append-nil (codeword s c n) in
    (long, is ∙ ap (λ (l : List ℕ). take at before ++ l) last)

-- ## A row

-- the codewords of the numbers from i on stand in the buffer, from place `at` on; those before take the bytes before
pub record Filled (s c : ℕ) (row before : List ℕ) (bytes : ℕ) (out : List ℕ) (at i : ℕ) : Type 0 where
  pub is : out ≡ take at before ++ (encoding s c (drop i row) ++ drop bytes before)
  pub long : at ≡ length (encoding s c (take i row))
  pub fits : at ≤ length before

pub filled-start : (s c : ℕ) (row before : List ℕ) (bytes : ℕ) → bytes ≡ length (encoding s c row) → bytes ≤ length before
    → Filled s c row before bytes before bytes (length row)
unfolding encoding flatten
filled-start s c row before bytes whole room =
    record {
      is = rw (drop-length row) (sym (take-append-drop bytes before));
      long = rw (take-length row) whole;
      fits = room;
    }

module _ {s c : ℕ} {row before : List ℕ} {bytes : ℕ} {out : List ℕ} {at i : ℕ} (f : Filled s c row before bytes out at i) where
  -- one number more, the last of those before
  module _ (n : ℕ) (h : 1 ≤ i) (k : i ≤ length row) (e : n ≡ get_or row (i - 1) 0) where
    j : suc (i - 1) ≡ i
    j = omega arith

    last : length (encoding s c (take i row)) ≡ length (encoding s c (take (i - 1) row)) + length (codeword s c n)
    unfolding encoding flatten
    last =
        let t : take i row ≡ take (i - 1) row ++ (n ∷ []) = rw e (ap (λ (x : ℕ). take x row) (sym j) ∙ take-suc row (i - 1) 0 (omega arith)) in
        omega (
          arith,
          ap (λ (l : List ℕ). length (encoding s c l)) t,
          ap length (encoding-append s c (take (i - 1) row) (n ∷ [])),
          length-append (encoding s c (take (i - 1) row)) (encoding s c (n ∷ [])),
          length-append (codeword s c n) [],
        )

    more : encoding s c (drop (i - 1) row) ≡ codeword s c n ++ encoding s c (drop i row)
    unfolding encoding flatten
    more =
        let d : drop (i - 1) row ≡ n ∷ drop i row = rw e (drop-cons row (i - 1) 0 (omega arith) ∙ ap (λ (x : ℕ). get_or row (i - 1) 0 ∷ drop x row) j) in
        ap (encoding s c) d

    pub filled-room : length (codeword s c n) ≤ at
    filled-room = omega (arith, f.long, last)

    pub filled_more : (now : List ℕ) (to : ℕ) → PutBefore (codeword s c n) at to out now → Filled s c row before bytes now to (i - 1)
    filled_more now to (g, q) =
        let tail : List ℕ = encoding s c (drop i row) ++ drop bytes before in
        let sized = length-take-le at before f.fits in
        let front : take to out ≡ take to before =
        ap (take to) f.is ∙ take-append-le to (take at before) tail (omega arith) ∙ take-take to at before (omega arith) in
        let back : drop at out ≡ tail = ap (drop at) f.is ∙ drop_at (take at before) tail at sized in
        record {
          is =
              q ∙ ap₂ (λ (a b : List ℕ). a ++ (codeword s c n ++ b)) front back
              ∙ ap (λ (l : List ℕ). take to before ++ l) (sym (append_assoc (codeword s c n) (encoding s c (drop i row)) (drop bytes before)))
              ∙ ap (λ (l : List ℕ). take to before ++ (l ++ drop bytes before)) (sym more);
          long = omega (arith, last, f.long);
          fits = omega (arith, f.fits);
        }

  pub filled-end : i ≡ 0 → out ≡ encoding s c row ++ drop bytes before
  unfolding encoding flatten
  filled-end e =
      let z : at ≡ 0 = f.long ∙ ap (λ (x : ℕ). length (encoding s c (take x row))) e in
      f.is ∙ ap₂ (λ (a x : ℕ). take a before ++ (encoding s c (drop x row) ++ drop bytes before)) z e

-- ## A row, from its last number back, into exactly so many bytes

-- the numbers from the rest on are those behind it
pub record Behind (s c : ℕ) (row before out : List ℕ) (at : ℕ) (rest : List ℕ) : Type 0 where
  pub put : List ℕ
  pub parts : row ≡ rest ++ put
  pub filled : Filled s c row before (length before) out at (length rest)
  pub same : length out ≡ length before
  pub fits : at ≤ length out

pub behind-start : (s c : ℕ) (row before rest : List ℕ) → length before ≡ length (encoding s c row) → rest ≡ row
    → Behind s c row before before (length before) rest
behind-start s c row before rest e all =
    rw all (record {
      put = [];
      parts = sym (append-nil row);
      filled = filled-start s c row before (length before) e (omega arith);
      same = refl;
      fits = omega arith;
    })

module _ {s c : ℕ} {row before out : List ℕ} {at : ℕ} {rest : List ℕ} (f : Behind s c row before out at rest) where
  -- n is the last number of the rest
  module _ (front : List ℕ) (n : ℕ) (e : rest ≡ front ++ (n ∷ [])) where
    split : row ≡ front ++ (n ∷ f.put)
    split = f.parts ∙ ap (λ (l : List ℕ). l ++ f.put) e ∙ append_assoc front (n ∷ []) f.put

    inside : length front < length row
    inside = omega (arith, ap length split, length-append front (n ∷ f.put))

    sized : length rest ≡ suc (length front)
    sized = omega (arith, ap length e, length-append front (n ∷ []))

    found : get_or row (length front) 0 ≡ n
    found = rw split (get_or-append_seam front n f.put 0)

    is : n ≡ get_or row (length rest - 1) 0
    is = let j : length rest - 1 ≡ length front = omega (arith, sized) in rw j (sym found)

    pub behind-number : Legal max_number row → 1 ≤ n
    behind-number legal = (number_is max_number n (rw found at (legal-at max_number row (length front) legal inside))).0

    pub behind-room : length (codeword s c n) ≤ length (take at out)
    behind-room =
        omega (arith, filled-room f.filled n (omega (arith, sized)) (omega (arith, sized, inside)) is, length-take-le at out f.fits)

    pub behind-more : (to : ℕ) (now : List ℕ) → (to + length (codeword s c n) ≡ length (take at out)) × (now ≡ take to (take at out) ++ codeword s c n)
        → Behind s c row before (now ++ drop at out) to front
    behind-more to now (g, q) =
        let w : List ℕ = codeword s c n in
        let held = length-take-le at out f.fits in
        let now-is : now ++ drop at out ≡ take to out ++ (w ++ drop at out) =
        ap (λ (l : List ℕ). l ++ drop at out) q ∙ append_assoc (take to (take at out)) w (drop at out)
        ∙ ap (λ (l : List ℕ). l ++ (w ++ drop at out)) (take-take to at out (omega (arith, held))) in
        let j : length rest - 1 ≡ length front = omega (arith, sized) in
        let more = filled_more f.filled n (omega (arith, sized)) (omega (arith, sized, inside)) is (now ++ drop at out) to (omega (arith, held), now-is) in
        let long : length (now ++ drop at out) ≡ length out =
        omega (
          arith,
          ap length now-is,
          length-append (take to out) (w ++ drop at out),
          length-append w (drop at out),
          length-take-le to out (omega (arith, f.fits)),
          length-drop at out,
          f.fits,
        ) in
        record {
          put = n ∷ f.put;
          parts = split;
          filled = subst (λ (i : ℕ). Filled s c row before (length before) (now ++ drop at out) to i) j more;
          same = long ∙ f.same;
          fits = omega (arith, long, f.fits);
        }

  -- the codewords of the numbers behind the rest stand from place `at` on, and those of the rest take the bytes before
  pub behind-is : (drop at out ≡ encoding s c f.put) × (at ≡ length (encoding s c rest))
  behind-is =
      let later : drop (length rest) row ≡ f.put = ap (drop (length rest)) f.parts ∙ drop_at rest f.put (length rest) refl in
      let sooner : take (length rest) row ≡ rest = ap (take (length rest)) f.parts ∙ take-append_seam rest f.put in (
        ap (drop at) f.filled.is ∙ drop_at (take at before) _ at (length-take-le at before f.filled.fits)
            ∙ ap₂ (λ (a b : List ℕ). encoding s c a ++ b) later (drop-length before) ∙ append-nil (encoding s c f.put),
        f.filled.long ∙ ap (λ (l : List ℕ). length (encoding s c l)) sooner,
      )

  pub behind-end : length rest ≡ 0 → out ≡ encoding s c row
  behind-end e =
      filled-end f.filled e ∙ ap (λ (l : List ℕ). encoding s c row ++ l) (drop-length before) ∙ append-nil (encoding s c row)
