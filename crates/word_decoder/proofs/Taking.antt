-- A word that has the next bits of an encoding: what its first codeword is, and what is left of it.
use mathlib.Core.Path.{◌≡◌, refl, sym, ap, ap₂, subst, ◌∙◌}
use mathlib.Core.Bool.{Bool, true, false, true≢false}
use mathlib.Core.List.{List, [], ◌∷◌, ◌++◌, append_assoc, append-nil, flatten}
use Prim.Native.Nat.{ℕ, ◌+◌, ◌-◌, ◌*◌, ◌/◌, ◌%◌, ◌^◌, ◌≤◌, ◌<◌}
use native.Mathlib.Omega.{arith}
use native.Mathlib.Decide.{dec_le}
use lib.ListN.{length, get_or, take, drop, replicate, length-append, length-take, length-drop, take-append-drop, get_or-replicate}
use lib.Seq.{drop-drop, take-append-le, take-take, length-take-le, get_or-take, get_or-drop, get_or-append-add}
use Rattle.std.proofs.lemmas.List.{get_or_past}
use lib.Count.{count_leading_zeros}
use Rattle.lists.proofs.Each.{all_append}
use Rattle.lists.proofs.Lists.{drop-take, filled-default}
use Rattle.bits.specs.Bits.{word_bits}
use Rattle.bits.proofs.Words.{words-zero, words-length}
use Rattle.fibonacci.specs.Code.{runs, value, first, ones, number, codeword, Codeword}
use Rattle.fibonacci.specs.Encoding.{row_bits}
use Rattle.calls.proofs.Checks.{number_is, is-number}
use Rattle.calls.proofs.Finished.{illegal-above}
use Rattle.calls.specs.Limits.{is_number, max_number, max_count, Order}
use Rattle.fibonacci.proofs.Lookup as lookup
use Rattle.fibonacci.proofs.Numbers.{first_pos, codeword-number, number_of}
use Rattle.fibonacci.proofs.Rows.{bits-append}
use Rattle.word_windows.specs.declared.Window.{Window}
use Rattle.word_windows.specs.Leaves.{body_number, ExactIfLegal, RunStarts, run_starts, WindowAt, LoadedWindow}
use Rattle.word_decoder.specs.Leaves.{DecodedPrefix, Taken, Stuck, short, pending, large, Windowed, Ready}
use Rattle.word_windows.proofs.Starts.{up, words_up, starts-runs, starts-up, starts-zeros, first-start, no-start-before, first-within, first_ends, first-coded, first-zero}

-- ## Codewords that were taken

pub taken_none : (m limit : ℕ) (b : List Bool) (k : ℕ) → k ≤ length b → Taken m limit b k k []
taken_none m limit b k h = record { bits = unfold row_bits flatten in refl; legal = tt; within = h }

-- one
pub taken_one : (m limit : ℕ) (b : List Bool) (k t n : ℕ) → 1 ≤ m → k + t ≤ length b → Codeword m (take t (drop k b)) → n ≡ number m (take t (drop k b))
    → is_number limit n ≡ true → Taken m limit b k (k + t) (n ∷ [])
taken_one m limit b k t n p h c is l =
    record {
      bits = sym (take-append-drop t (drop k b)) ∙ ap₂ (λ (x y : List Bool). x ++ y) (sym last) (drop-drop t k b);
      legal = (l, tt);
      within = h;
    }
  where
    alone : row_bits m (n ∷ []) ≡ codeword m n
    alone = unfold row_bits flatten in append-nil (codeword m n)

    last : row_bits m (n ∷ []) ≡ take t (drop k b)
    last = alone ∙ ap (codeword m) is ∙ (codeword-number m (take t (drop k b)) p c).0

-- one after the other
pub taken-append : {m limit : ℕ} {b : List Bool} {k e f : ℕ} {xs ys : List ℕ} → Taken m limit b k e xs → Taken m limit b e f ys → Taken m limit b k f (xs ++ ys)
taken-append {m} {limit} {b} {k} {e} {f} {xs} {ys} x y =
    record {
      bits =
          x.bits ∙ ap (λ (l : List Bool). row_bits m xs ++ l) y.bits ∙ sym (append_assoc (row_bits m xs) (row_bits m ys) (drop f b))
          ∙ ap (λ (l : List Bool). l ++ drop f b) (sym (bits-append m xs ys));
      legal = all_append (λ n. is_number limit n ≡ true) xs ys x.legal y.legal;
      within = y.within;
    }

-- one more
pub taken_more : (m limit : ℕ) (b : List Bool) (k e : ℕ) (row : List ℕ) (t n : ℕ) → 1 ≤ m → Taken m limit b k e row
    → e + t ≤ length b → Codeword m (take t (drop e b)) → n ≡ number m (take t (drop e b)) → is_number limit n ≡ true
    → Taken m limit b k (e + t) (row ++ (n ∷ []))
taken_more m limit b k e row t n p r h c is l = taken-append r (taken_one m limit b e t n p h c is l)

-- a number that was taken is legal
pub taken-number : {m limit : ℕ} {b : List Bool} {k e n : ℕ} → Taken m limit b k e (n ∷ []) → n ≤ limit
taken-number {m} {limit} {b} {k} {e} {n} t = (number_is limit n t.legal.0).1

-- nothing yet, from the start on
pub decoded-none : (m limit : ℕ) (b : List Bool) → DecodedPrefix m limit b 0 0 []
decoded-none m limit b = record { taken = taken_none m limit b 0 (omega arith); many = refl; most = omega arith }

module _ {m limit : ℕ} {b : List Bool} {k count : ℕ} {row : List ℕ} (g : DecodedPrefix m limit b k count row) where
  -- and more
  pub decoded-more : (e i : ℕ) (ys : List ℕ) → Taken m limit b k e ys → length ys ≡ i → count + i ≤ max_count
      → DecodedPrefix m limit b e (count + i) (row ++ ys)
  decoded-more e i ys t l h = record { taken = taken-append g.taken t; many = omega (arith, length-append row ys, g.many); most = h }

  -- the bits of the numbers taken end where they were taken to
  pub decoded-end : k ≡ length (row_bits m row)
  decoded-end = omega (arith, ap length g.taken.bits, length-append (row_bits m row) (drop k b), length-drop k b, g.taken.within)

-- ## Bits in a word

-- no bit
zero_bits : (i : ℕ) → get_or (word_bits 64 0) i false ≡ false
zero_bits i = rw (words-zero 64) (filled-default [] 64 i false)

pub windowed_none : (b : List Bool) (k : ℕ) → Windowed b k 0
windowed_none b k i e = absurd (true≢false (sym e ∙ zero_bits i))

-- a word that was filled
pub windowed_at : (b : List Bool) (k w : ℕ) → WindowAt b k w → Windowed b k w
windowed_at b k w a i e =
    let window : List Bool = take a.some (drop k b) in
    let long : length window ≡ a.some = length-take-le a.some (drop k b) (omega (arith, length-drop k b, a.within)) in
    elim (dec_le a.some i) [
      | yes h ↦
          let past = get_or_past window i false (omega (arith, long)) in
          absurd (true≢false (sym e ∙ ap (λ (l : List Bool). get_or l i false) a.bits ∙ filled-default window a.others i false ∙ past))
      | no h ↦
          ap (take (i + 1)) a.bits ∙ take-append-le (i + 1) window (replicate a.others false) (omega (arith, long))
          ∙ take-take (i + 1) a.some (drop k b) (omega arith)
    ]

module _ (b : List Bool) (k w : ℕ) (a : Windowed b k w) where
  -- what is left when t bits are taken off
  pub windowed-up : (t : ℕ) → t ≤ 64 → Windowed b (k + t) (w * 2 ^ t % 2 ^ 64)
  windowed-up t h i e =
      let bits : List Bool = word_bits 64 w in
      let same = words_up 64 w t h in
      let set : get_or bits (t + i) false ≡ true =
      sym (ap (λ (l : List Bool). get_or l i false) same ∙ filled-default (drop t bits) t i false ∙ get_or-drop t bits i false) ∙ e in
      let inside : t + i < 64 = within (t + i) set in
      let less : t + i + 1 - t ≡ i + 1 = omega arith in
      let cut : take (i + 1) (drop t bits) ≡ take (i + 1) (drop t (drop k b)) =
      rw (← less) (sym (drop-take t (t + i + 1) bits) ∙ ap (drop t) (a (t + i) set) ∙ drop-take t (t + i + 1) (drop k b)) in
      ap (take (i + 1)) same
      ∙ take-append-le (i + 1) (drop t bits) (replicate t false) (omega (arith, length-drop t bits, words-length 64 w))
      ∙ cut ∙ ap (take (i + 1)) (drop-drop t k b)
    where
      within : (j : ℕ) → get_or (word_bits 64 w) j false ≡ true → j < 64
      within j s =
          elim (dec_le 64 j) [
            | yes l ↦ absurd (true≢false (sym s ∙ get_or_past (word_bits 64 w) j false (omega (arith, words-length 64 w))))
            | no l ↦ omega arith
          ]

-- ## The first codeword of a word

module _ {m : ℕ} {b : List Bool} {k : ℕ} {window : Window} (o : Order m) (f : Ready m b k window) where
  abbrev w : ℕ
  w = window.left

  abbrev y : ℕ
  y = window.starts

  pos : 1 ≤ m
  pos = omega (arith, o)

  -- how many bits stand before its last ones
  abbrev len : ℕ
  len = count_leading_zeros 64 y

  abbrev bits : List Bool
  bits = word_bits 64 w

  one : get_or (run_starts m bits) len false ≡ true
  one = ap (λ (l : List Bool). get_or l len false) (sym f.starts_are.0) ∙ first-start 64 y f.some f.starts_are.1

  none : (i : ℕ) → i < len → get_or (run_starts m bits) i false ≡ false
  none i h = ap (λ (l : List Bool). get_or l i false) (sym f.starts_are.0) ∙ no-start-before 64 y f.some f.starts_are.1 i h

  pub size-most : len + m ≤ 64
  size-most = omega (arith, first-within m pos bits len one none, words-length 64 w)

  ends : take (len + m) bits ≡ take len bits ++ ones m
  ends = first_ends m pos bits len one none

  long : length (take len bits) ≡ len
  long = length-take-le len bits (omega (arith, size-most, words-length 64 w))

  last : get_or bits (len + (m - 1)) false ≡ true
  last =
      sym (get_or-take (len + m) bits (len + (m - 1)) false (omega arith))
      ∙ ap₂ (λ (l : List Bool) (n : ℕ). get_or l (n + (m - 1)) false) ends (sym long)
      ∙ get_or-append-add (take len bits) (ones m) (m - 1) false ∙ get_or-replicate m (m - 1) true false (omega arith)

  abbrev word : List Bool
  word = take (len + m) (drop k b)

  word-is : take (len + m) bits ≡ word
  word-is = let e : len + (m - 1) + 1 ≡ len + m = omega arith in rw (← e) (f.windowed (len + (m - 1)) last)

  pub word-coded : Codeword m word
  word-coded = subst (Codeword m) word-is (first-coded m pos bits len one none)

  pub word-within : k + (len + m) ≤ length b
  word-within = omega (arith, ap length word-is, length-take (len + m) bits, words-length 64 w, size-most, length-take (len + m) (drop k b), length-drop k b)

  pub word-zero : 1 ≤ len → get_or bits (len - 1) false ≡ false
  word-zero h = first-zero m pos bits len one none h

  pub word_number : number m word ≡ body_number m w len
  word_number =
      ap (number m) (sym word-is ∙ ends) ∙ number_of m (take len bits) ∙ ap (λ (d : ℕ). first m d + value m 1 (take len bits)) long

  -- how far the window goes on
  pub next-starts : RunStarts m (w * 2 ^ (len + m) % 2 ^ 64) (y * 2 ^ (len + m) % 2 ^ 64)
  next-starts =
      let t : ℕ = len + m in (
        words_up 64 y t size-most ∙ ap (up t) f.starts_are.0 ∙ sym (starts-up m t bits pos) ∙ ap (run_starts m) (sym (words_up 64 w t size-most)),
        omega arith,
      )

  pub next-windowed : Windowed b (k + (len + m)) (w * 2 ^ (len + m) % 2 ^ 64)
  next-windowed = windowed-up b k w f.windowed (len + m) size-most

  -- what was found for its number
  module _ (limit n : ℕ) (is : ExactIfLegal (body_number m w len) n) (top : limit ≤ max_number) where
    -- is not legal
    pub large-number : is_number limit n ≡ false → Stuck m limit b k
    large-number bad =
        let x : ℕ = body_number m w len in
        let above : limit < x =
        elim (dec_le x max_number) [
          | yes h ↦ omega (arith, is.0 h, illegal-above limit n (omega (arith, is.0 h, first_pos m len)) bad)
          | no h ↦ omega arith
        ] in
        large (len + m) word-coded (omega (arith, word_number))

    -- or it is
    module _ (legal : is_number limit n ≡ true) where
      same : (n ≡ body_number m w len) × (first m len ≤ max_number)
      same =
          let l = number_is limit n legal in
          let x : ℕ = body_number m w len in
          elim (dec_le x max_number) [
            | yes h ↦ (is.0 h, omega arith)
            | no h ↦ absurd (true≢false (sym (is-number max_number n l.0 (omega (arith, l.1))) ∙ is.1 (omega arith)))
          ]

      pub size-less : len + m ≤ 47
      size-less = lookup.first-within m o len same.1

      pub number-taken : Taken m limit b k (k + (len + m)) (n ∷ [])
      number-taken = taken_one m limit b k (len + m) n pos word-within word-coded (same.0 ∙ sym word_number) legal

-- ## Where words take no more

-- no codeword ends in a window that was filled
pub stuck-window : (m limit : ℕ) (b : List Bool) (k : ℕ) (w : Window) → 1 ≤ m → LoadedWindow m b k w → w.starts ≡ 0 → Stuck m limit b k
stuck-window m limit b k w pos a none =
    elim (dec_le (8 * (k / 8) + 64) (length b)) [
      | no h ↦ short (omega arith)
      | yes h ↦
          pending (ap (λ (n : ℕ). runs m (take n (drop k b))) (sym (a.whole h)) ∙ starts-runs m windowed (λ i. sym (at i) ∙ none_at i))
    ]
  where
    windowed : List Bool
    windowed = take a.window.some (drop k b)

    at : (i : ℕ) → get_or (word_bits 64 w.starts) i false ≡ get_or (run_starts m windowed) i false
    at i =
        ap (λ (l : List Bool). get_or l i false) (a.starts_are.0 ∙ ap (run_starts m) a.window.bits ∙ starts-zeros m windowed a.window.others pos)
        ∙ filled-default (run_starts m windowed) a.window.others i false

    none_at : (i : ℕ) → get_or (word_bits 64 w.starts) i false ≡ false
    none_at i = ap (λ (n : ℕ). get_or (word_bits 64 n) i false) none ∙ zero_bits i
