-- The codeword at the front of bytes, by the continuers and the stopper that it is made of.
use mathlib.Core.Path.{◌≡◌, refl, sym, ap, subst, ◌∙◌}
use mathlib.Core.List.{List, [], ◌∷◌, ◌++◌, append_assoc, map}
use Prim.Native.Nat.{ℕ, zero, suc, ◌+◌, ◌-◌, ◌*◌, ◌≤◌, ◌<◌}
use native.Mathlib.Omega.{arith}
use native.Mathlib.Nat.{le-mul_of_pos_right, mul-le-mul}
use native.Mathlib.Decide.{dec_le}
use lib.ListN.{length, get_or, drop, length-append, length-drop}
use lib.Seq.{drop-drop, drop-length, get_or-drop}
use Rattle.std.specs.Prelude.{Option, None}
use Rattle.lists.proofs.Lists.{drop-next}
use Rattle.lists.proofs.Each.{all_append, all_drop}
use Rattle.calls.specs.Limits.{max_number}
use Rattle.codes.specs.Parse.{Parse, codewords, rest}
use Rattle.codes.proofs.Parse.{prepend-codewords, prepend-rest}
use Rattle.dense.specs.Code.{number}
use Rattle.dense.specs.Encoding.{Rest, parse, numbers}
use Rattle.dense.specs.Limits.{Stoppers, continuers}
use Rattle.dense.specs.Leaves.{index}
use Rattle.dense.proofs.Numbers.{index-append, index-grows, number-index}
use Rattle.dense.proofs.Parse.{parse-stem}
use Rattle.dense_decoder.specs.Leaves.{Finished, FinishedFrom, Numbered, Front, FrontAfter}

-- ## Continuers and a stopper

module _ (s : ℕ) (u : List ℕ) (go : Rest s u) (z : ℕ) (t : List ℕ) (stop : z < s) where
  abbrev c : ℕ
  c = continuers s

  pub front-is : (numbers s c (u ++ (z ∷ t)) ≡ suc (index s c 0 u * s + z) ∷ numbers s c t) × (rest (parse s (u ++ (z ∷ t))) ≡ rest (parse s t))
  unfolding numbers
  front-is =
      let p = parse-stem s u z t go stop in
      let w : List ℕ = u ++ (z ∷ []) in (
        ap (λ (x : Parse ℕ). map (number s c) (codewords x)) p ∙ ap (map (number s c)) (prepend-codewords w (parse s t))
            ∙ ap (λ (n : ℕ). n ∷ map (number s c) (codewords (parse s t))) (number-index s c u z),
        ap rest p ∙ prepend-rest w (parse s t),
      )

-- bytes with a stopper have a first one
first-stopper : (s : ℕ) (l : List ℕ) (j : ℕ) → j < length l → get_or l j 0 < s
    → (u : List ℕ) × (z : ℕ) × (t : List ℕ) × (l ≡ u ++ (z ∷ t)) × Rest s u × (z < s)
first-stopper s [] j h e = absurd (omega arith)
first-stopper s (x ∷ l) zero h e = ([], x, l, refl, tt, e)
first-stopper s (x ∷ l) (suc j) h e =
    elim (dec_le s x) [
      | yes go ↦
          let (u, z, t, is, more, stop) = first-stopper s l j (omega arith) e in
          (x ∷ u, z, t, ap (λ (k : List ℕ). x ∷ k) is, (go, more), stop)
      | no go ↦ ([], x, l, refl, tt, omega arith)
    ]

-- ## From a place on

module _ (s : ℕ) (b : List ℕ) (i : ℕ) (f : FinishedFrom s b i) where
  pub finished-within : i < length b
  finished-within = omega (arith, f.1, f.2)

  pub finished-later : (x : ℕ) → x ≡ get_or b i 0 → s ≤ x → FinishedFrom s b (i + 1)
  finished-later x e go =
      elim (dec_le (i + 1) f.0) [
        | yes l ↦ (f.0, l, f.2, f.3)
        | no l ↦ let same : f.0 ≡ i = omega (arith, f.1) in absurd (omega (arith, ap (λ (k : ℕ). get_or b k 0) same, f.3))
      ]

  pub finished-first : (u : List ℕ) × (z : ℕ) × (t : List ℕ) × (drop i b ≡ u ++ (z ∷ t)) × Rest s u × (z < s)
  finished-first =
      let at : i + (f.0 - i) ≡ f.0 = omega (arith, f.1) in
      first-stopper s (drop i b) (f.0 - i) (omega (arith, f.1, f.2, length-drop i b)) (rw (get_or-drop i b (f.0 - i) 0, at) f.3)

  -- a codeword is there
  pub finished-some : (n : ℕ) × (ns : List ℕ) × (numbers s (continuers s) (drop i b) ≡ n ∷ ns)
  finished-some = let (u, z, t, e, go, stop) = finished-first in (_, _, ap (numbers s (continuers s)) e ∙ (front-is s u go z t stop).0)

-- if the last byte is a stopper, there is one from every place on, and a continuer is not the last byte
module _ (s : ℕ) (b : List ℕ) (f : Finished s b) (i : ℕ) (h : i < length b) where
  pub finished-from : FinishedFrom s b i
  finished-from = (length b - 1, omega arith, omega arith, f)

  pub finished-next : {x : ℕ} → x ≡ get_or b i 0 → s ≤ x → i + 1 < length b
  finished-next {x} e go = finished-within s b (i + 1) (finished-later s b i finished-from x e go)

-- no byte is a stopper of none, and one more in front is a continuer
pub rest-none : (s : ℕ) (b : List ℕ) → Rest s (drop (length b) b)
rest-none s b = rw (drop-length b) tt

pub rest_more : (s : ℕ) (b : List ℕ) (end x : ℕ) → 1 ≤ end → end ≤ length b → x ≡ get_or b (end - 1) 0 → s ≤ x → Rest s (drop end b) → Rest s (drop (end - 1) b)
rest_more s b end x h l e go more = let at : end - 1 + 1 ≡ end = omega arith in rw (drop-next b (end - 1) 0 (omega arith) e, at) (go, more)

-- bytes without a stopper have none later
pub rest-later : (s : ℕ) (b : List ℕ) (i end : ℕ) → end ≤ i → Rest s (drop end b) → Rest s (drop i b)
rest-later s b i end h a =
    let at : end + (i - end) ≡ i = omega arith in
    subst (Rest s) (drop-drop (i - end) end b ∙ ap (λ (k : ℕ). drop k b) at) (all_drop (λ x. s ≤ x) (i - end) (drop end b) a)

-- ## What is found

module _ (s limit : ℕ) (b u : List ℕ) (go : Rest s u) where
  -- the codeword ends with x at place i, its number is that after m, and it may be above the limit
  pub front-number : (i x m : ℕ) (r : Option (ℕ × ℕ)) → i < length b → x ≡ get_or b i 0 → x < s → m ≡ index s (continuers s) 0 u * s + x
      → Numbered m (i + 1) limit r → Front s limit b (u ++ drop i b) r
  front-number i x m r h e stop is told =
      let f = front-is s u go x (drop (i + 1) b) stop in
      let at = drop-next b i 0 h e in
      let after : suc (index s (continuers s) 0 u * s + x) ≡ m + 1 = omega arith in
      let ns = ap (λ (l : List ℕ). numbers s (continuers s) (u ++ l)) at ∙ f.0 ∙ ap (λ (k : ℕ). k ∷ numbers s (continuers s) (drop (i + 1) b)) after in
      elim (dec_le limit m) [
        | yes l ↦ rw (told.1 l) (m + 1, numbers s (continuers s) (drop (i + 1) b), ns, omega arith)
        | no l ↦
            rw (told.0 (omega arith)) (
              omega arith,
              omega arith,
              omega (arith, length-append u (drop i b), ap length at),
              ns,
              ap (λ (l : List ℕ). rest (parse s (u ++ l))) at ∙ f.1,
            )
      ]

-- a string that is at the limit or above it is in no legal number, whatever follows
pub front-past : (s limit : ℕ) (b : List ℕ) (i y : ℕ) → 1 ≤ s → s ≤ 254 → FinishedFrom s b i → limit ≤ y → FrontAfter s limit b i y None
front-past s limit b i y ps hs more h u before is =
    let c : ℕ = continuers s in
    let (v, z, t, e, go, stop) = finished-first s b i more in
    let f = front-is s (u ++ v) (all_append (λ x. s ≤ x) u v before go) z t stop in
    let joined : u ++ drop i b ≡ (u ++ v) ++ (z ∷ t) = ap (λ (l : List ℕ). u ++ l) e ∙ sym (append_assoc u v (z ∷ t)) in
    let grows : y ≤ index s c 0 (u ++ v) = rw (index-append s c 0 u v, ← is) (index-grows s c y v (omega arith)) in
    (suc (index s c 0 (u ++ v) * s + z), numbers s c t, ap (numbers s c) joined ∙ f.0, omega (arith, le-mul_of_pos_right {m = s} (index s c 0 (u ++ v)) ps))

-- ## Byte by byte

-- the bytes from one place up to another are continuers, which make string y string z
pub record Passed (s : ℕ) (b : List ℕ) (from y i z : ℕ) : Type 0 where
  pub bytes : List ℕ
  pub are : drop from b ≡ bytes ++ drop i b
  pub go : Rest s bytes
  pub string : z ≡ index s (continuers s) y bytes

module _ (s : ℕ) (b : List ℕ) (from y : ℕ) where
  pub passed_none : Passed s b from y from y
  unfolding index
  passed_none = record { bytes = []; are = refl; go = tt; string = refl }

  module _ (i z : ℕ) (p : Passed s b from y i z) where
    -- one more, which is digit d, from 1 up
    pub passed-more : (x d : ℕ) → i < length b → x ≡ get_or b i 0 → s ≤ x → d ≡ x - s + 1 → Passed s b from y (i + 1) (z * continuers s + d)
    unfolding index
    passed-more x d h e l is =
        record {
          bytes = p.bytes ++ (x ∷ []);
          are = p.are ∙ ap (λ (t : List ℕ). p.bytes ++ t) (drop-next b i 0 h e) ∙ sym (append_assoc p.bytes (x ∷ []) (drop (i + 1) b));
          go = all_append (λ y. s ≤ y) p.bytes (x ∷ []) p.go (l, tt);
          string = rw (index-append s (continuers s) y p.bytes (x ∷ []), ← p.string) (omega arith);
        }

    -- what stands at the front after them stands there before
    pub passed-front : (limit : ℕ) (r : Option (ℕ × ℕ)) → FrontAfter s limit b i z r → FrontAfter s limit b from y r
    passed-front limit r found u before is =
        let c : ℕ = continuers s in
        let e : u ++ drop from b ≡ (u ++ p.bytes) ++ drop i b = ap (λ (l : List ℕ). u ++ l) p.are ∙ sym (append_assoc u p.bytes (drop i b)) in
        let z-is : z ≡ index s c 0 (u ++ p.bytes) = rw (index-append s c 0 u p.bytes, ← is) p.string in
        rw e (found (u ++ p.bytes) (all_append (λ x. s ≤ x) u p.bytes before p.go) z-is)

    -- a stopper comes
    pub passed-number : (limit x : ℕ) (r : Option (ℕ × ℕ)) → i < length b → x ≡ get_or b i 0 → x < s → Numbered (z * s + x) (i + 1) limit r → FrontAfter s limit b from y r
    passed-number limit x r h e stop told =
        passed-front limit r (λ v go is. front-number s limit b v go i x (z * s + x) r h e stop (ap (λ (k : ℕ). k * s + x) is) told)

    -- the string is at the limit
    pub passed-past : (limit : ℕ) → Stoppers s → Finished s b → i < length b → limit ≤ z → FrontAfter s limit b from y None
    passed-past limit o f h l = passed-front limit None (front-past s limit b i z o.0 o.1 (finished-from s b f i h) l)

-- ## The first bytes

module _ (s limit : ℕ) (b : List ℕ) (i x : ℕ) (h : i < length b) (e : x ≡ get_or b i 0) where
  -- one is a codeword
  pub front-one : (r : Option (ℕ × ℕ)) → x < s → Numbered x (i + 1) limit r → Front s limit b (drop i b) r
  unfolding index
  front-one r stop told = front-number s limit b [] tt i x x r h e stop (omega arith) told

  -- it is a continuer, and z comes after it
  module _ (go : s ≤ x) (z : ℕ) (k : i + 1 < length b) (f : z ≡ get_or b (i + 1) 0) (r : Option (ℕ × ℕ)) where
    one : x - s + 1 ≡ suc (0 * continuers s + (x - s))
    one = omega arith

    two : i + 1 + 1 ≡ i + 2
    two = omega arith

    -- two are a codeword
    pub front-two : z < s → Numbered ((x - s + 1) * s + z) (i + 2) limit r → Front s limit b (drop i b) r
    unfolding index
    front-two stop told =
        rw (drop-next b i 0 h e)
        (front-number s limit b (x ∷ []) (go, tt) (i + 1) z ((x - s + 1) * s + z) r k f stop (ap (λ (j : ℕ). j * s + z) one) (rw two told))

    -- two begin a codeword
    pub front-more : s ≤ z → FrontAfter s limit b (i + 2) ((x - s + 1) * continuers s + (z - s + 1)) r → Front s limit b (drop i b) r
    unfolding index
    front-more l found =
        rw (drop-next b i 0 h e, drop-next b (i + 1) 0 k f, two) (found (x ∷ z ∷ []) (go, (l, tt)) (omega (arith, ap (λ (m : ℕ). m * continuers s) one)))

-- a product with the stoppers or the continuers is small
pub product_small : (y s : ℕ) → y ≤ max_number → s ≤ 256 → y * s ≤ max_number * 256
product_small y s h k = omega (arith, mul-le-mul h k)
