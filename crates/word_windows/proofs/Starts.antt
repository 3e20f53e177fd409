-- Where m ones in a row begin in a word: shifts, run starts joined, and the first of them.
use mathlib.Core.Path.{◌≡◌, refl, sym, ap, ap₂, ◌∙◌}
use mathlib.Core.Bool.{Bool, true, false, ◌&&◌}
use mathlib.Core.List.{List, [], ◌∷◌, ◌++◌}
use Prim.Native.Nat.{ℕ, zero, suc, ◌+◌, ◌-◌, ◌*◌, ◌/◌, ◌%◌, ◌^◌, ◌≤◌, ◌<◌}
use native.Mathlib.Omega.{arith}
use native.Mathlib.Nat.{add-zero, zero-add, add_comm, zero-div, two-pow-succ, div-eq_of_lt, div-eq_of_lt-le}
use native.Mathlib.Decide.{dec_le}
use lib.Dec.{leb, eqb}
use lib.ListN.{length, get_or, take, drop, replicate, length-drop}
use lib.Seq.{ext_get_or, drop-nil, drop_at, drop-drop, get_or-drop, take-add, drop-cons}
use lib.Pow.{shr-shr}
use lib.Bits.{bit_and}
use lib.Count.{count_leading_zeros, leading_top}
use borrow.Author.Tests.{le-leb, lt-leb, leb-true, leb-false}
use Rattle.lists.proofs.Lists.{filled-default}
use Rattle.bits.specs.Bits.{bit_value, bit_of, word_bits}
use Rattle.bits.proofs.Words.{bit-and, words-at, words-length, words-zero, words-split, words-mod, words-padded}
use Rattle.fibonacci.specs.Code.{ones, leading_ones, runs, Codeword}
use Rattle.fibonacci.proofs.Runs.{runs-all, runs-true, runs-false}
use Rattle.word_windows.specs.Leaves.{run_starts}

-- ## A word shifted up

-- bits moved up, with zeros behind them
abbrev pub up : ℕ → List Bool → List Bool
up t b = drop t b ++ replicate t false

pub words_up : (n x t : ℕ) → t ≤ n → word_bits n (x * 2 ^ t % 2 ^ n) ≡ up t (word_bits n x)
words_up n x t h =
    let e : n - t + t ≡ n = omega arith in
    let f : t + (n - t) ≡ n = omega arith in
    words-mod n n (x * 2 ^ t) (omega arith) ∙ ap (λ (k : ℕ). word_bits k (x * 2 ^ t)) (sym e) ∙ words-padded (n - t) t x
    ∙ ap (λ (l : List Bool). l ++ replicate t false)
    (sym (ap (λ (k : ℕ). drop t (word_bits k x)) (sym f) ∙ ap (drop t) (words-split t (n - t) x) ∙ drop_at (word_bits t (x / 2 ^ (n - t))) (word_bits (n - t) x) t (words-length t (x / 2 ^ (n - t)))))

-- ## Ones at the start

lead-drop : (k : ℕ) (b : List Bool) → k ≤ leading_ones b → leading_ones (drop k b) + k ≡ leading_ones b
lead-drop zero b h = add-zero (leading_ones b)
lead-drop (suc k) [] h = absurd (omega arith)
lead-drop (suc k) (false ∷ b) h = absurd (omega arith)
lead-drop (suc k) (true ∷ b) h = omega (arith, lead-drop k b (omega arith))

lead-take : (k : ℕ) (b : List Bool) → k ≤ leading_ones b → take k b ≡ ones k
lead-take zero b h = refl
lead-take (suc k) [] h = absurd (omega arith)
lead-take (suc k) (false ∷ b) h = absurd (omega arith)
lead-take (suc k) (true ∷ b) h = ap (λ (l : List Bool). true ∷ l) (lead-take k b (omega arith))

leading-ones-part : (n : ℕ) (b : List Bool) → leading_ones (take n b) ≤ leading_ones b
leading-ones-part zero b = omega arith
leading-ones-part (suc n) [] = omega arith
leading-ones-part (suc n) (false ∷ b) = omega arith
leading-ones-part (suc n) (true ∷ b) = omega (arith, leading-ones-part n b)

lead-zeros : (b : List Bool) (t : ℕ) → leading_ones (b ++ replicate t false) ≡ leading_ones b
lead-zeros [] zero = refl
lead-zeros [] (suc t) = refl
lead-zeros (false ∷ b) t = refl
lead-zeros (true ∷ b) t = ap suc (lead-zeros b t)

lead-length : (b : List Bool) → leading_ones b ≤ length b
lead-length [] = omega arith
lead-length (false ∷ b) = omega arith
lead-length (true ∷ b) = omega (arith, lead-length b)

-- ## Run starts

pub starts-length : (m : ℕ) (b : List Bool) → length (run_starts m b) ≡ length b
unfolding run_starts
starts-length m [] = refl
starts-length m (a ∷ b) = ap suc (starts-length m b)

pub starts-at : (m : ℕ) (b : List Bool) (i : ℕ) → 1 ≤ m → get_or (run_starts m b) i false ≡ leb m (leading_ones (drop i b))
unfolding run_starts
starts-at m [] i h = sym (ap (λ (l : List Bool). leb m (leading_ones l)) (drop-nil i) ∙ lt-leb m 0 h)
starts-at m (a ∷ b) zero h = refl
starts-at m (a ∷ b) (suc i) h = starts-at m b i h

-- without a run start there are no m ones in a row
pub starts-runs : (m : ℕ) (b : List Bool) → ((i : ℕ) → get_or (run_starts m b) i false ≡ false) → runs m b ≡ 0
unfolding run_starts runs
starts-runs m [] none = refl
starts-runs m (a ∷ b) none = ap₂ (λ (t : Bool) (k : ℕ). bit_value t + k) (none 0) (starts-runs m b (λ i. none (suc i)))

-- every one is the start of one
pub starts-one : (b : List Bool) → run_starts 1 b ≡ b
unfolding run_starts
starts-one [] = refl
starts-one (false ∷ b) = ap (λ (l : List Bool). false ∷ l) (starts-one b)
starts-one (true ∷ b) = ap₂ (λ (a : Bool) (l : List Bool). a ∷ l) (le-leb 1 (suc (leading_ones b)) (omega arith)) (starts-one b)

starts-drop : (m t : ℕ) (b : List Bool) → run_starts m (drop t b) ≡ drop t (run_starts m b)
unfolding run_starts
starts-drop m zero b = refl
starts-drop m (suc t) [] = refl
starts-drop m (suc t) (a ∷ b) = starts-drop m t b

pub starts-zeros : (m : ℕ) (b : List Bool) (t : ℕ) → 1 ≤ m → run_starts m (b ++ replicate t false) ≡ run_starts m b ++ replicate t false
unfolding run_starts
starts-zeros m [] zero h = refl
starts-zeros m [] (suc t) h = ap₂ (λ (a : Bool) (l : List Bool). a ∷ l) (lt-leb m 0 h) (starts-zeros m [] t h)
starts-zeros m (a ∷ b) t h =
    ap₂ (λ (k : ℕ) (l : List Bool). leb m k ∷ l) (lead-zeros (a ∷ b) t) (starts-zeros m b t h)

-- no run starts in zeros
pub starts_none : (m n : ℕ) → 1 ≤ m → word_bits n 0 ≡ run_starts m (word_bits n 0)
unfolding run_starts
starts_none m n h = rw (words-zero n) (sym (starts-zeros m [] n h))

-- run starts move with the bits
pub starts-up : (m t : ℕ) (b : List Bool) → 1 ≤ m → run_starts m (up t b) ≡ up t (run_starts m b)
starts-up m t b h = starts-zeros m (drop t b) t h ∙ ap (λ (l : List Bool). l ++ replicate t false) (starts-drop m t b)

-- j ones begin here and k places on, and nothing is left between them: j + k ones begin here
starts-join : (j k : ℕ) (b : List Bool) → k ≤ j → leb (j + k) (leading_ones b) ≡ leb j (leading_ones b) && leb j (leading_ones (drop k b))
starts-join j k b h =
    elim (dec_le j (leading_ones b)) [
      | yes l ↦
          let d = lead-drop k b (omega arith) in
          elim (dec_le (j + k) (leading_ones b)) [
            | yes g ↦ simp (le-leb (j + k) (leading_ones b) g, le-leb j (leading_ones b) l, le-leb j (leading_ones (drop k b)) (omega arith))
            | no g ↦ simp (lt-leb (j + k) (leading_ones b) (omega arith), le-leb j (leading_ones b) l, lt-leb j (leading_ones (drop k b)) (omega arith))
          ]
      | no l ↦ simp (lt-leb (j + k) (leading_ones b) (omega arith), lt-leb j (leading_ones b) (omega arith))
    ]

-- as a machine does it
pub run-starts-join : (n j k x : ℕ) (b : List Bool) → length b ≡ n → word_bits n x ≡ run_starts j b → 1 ≤ j → k ≤ j → k ≤ n
    → word_bits n (bit_and x (x * 2 ^ k % 2 ^ n)) ≡ run_starts (j + k) b
run-starts-join n j k x b l e p h w =
    ext_get_or false (word_bits n y) (run_starts (j + k) b)
    (words-length n y ∙ sym (starts-length (j + k) b ∙ l)) (λ i g. at i (omega (arith, words-length n y)))
  where
    z : ℕ
    z = x * 2 ^ k % 2 ^ n

    y : ℕ
    y = bit_and x z

    moved : (i : ℕ) → get_or (up k (run_starts j b)) i false ≡ leb j (leading_ones (drop k (drop i b)))
    moved i =
        filled-default (drop k (run_starts j b)) k i false ∙ get_or-drop k (run_starts j b) i false ∙ starts-at j b (k + i) p
        ∙ ap (λ (l : List Bool). leb j (leading_ones l)) (ap (λ (d : ℕ). drop d b) (add_comm k i) ∙ sym (drop-drop k i b))

    at : (i : ℕ) → i < n → get_or (word_bits n y) i false ≡ get_or (run_starts (j + k) b) i false
    at i g =
        words-at n y i g ∙ bit-and x z (n - 1 - i)
        ∙ ap₂ (λ (u v : Bool). u && v) (sym (words-at n x i g) ∙ ap (λ (l : List Bool). get_or l i false) e ∙ starts-at j b i p)
        (sym (words-at n z i g) ∙ ap (λ (l : List Bool). get_or l i false) (words_up n x k w ∙ ap (up k) e) ∙ moved i)
        ∙ sym (starts-join j k (drop i b) h) ∙ sym (starts-at (j + k) b i (omega arith))

-- ## The first run start

-- the first one of a word
module _ (n x : ℕ) (pos : 1 ≤ x) (low : x < 2 ^ n) where
  top : (j : ℕ) × (count_leading_zeros n x + suc j ≡ n) × (2 ^ j ≤ x) × (x < 2 ^ suc j)
  top = leading_top n x pos low

  pub first-start-within : count_leading_zeros n x < n
  first-start-within = omega (arith, top.1)

  pub first-start : get_or (word_bits n x) (count_leading_zeros n x) false ≡ true
  unfolding bit_of
  first-start =
      let e : n - 1 - count_leading_zeros n x ≡ top.0 = omega (arith, top.1) in
      let one : x / 2 ^ top.0 ≡ 1 = div-eq_of_lt-le {k = 1} (2 ^ top.0) (omega (arith, top.2)) (omega (arith, top.3, two-pow-succ top.0)) in
      words-at n x (count_leading_zeros n x) first-start-within ∙ ap (bit_of x) e ∙ ap (λ (d : ℕ). eqb (d % 2) 1) one

  pub no-start-before : (i : ℕ) → i < count_leading_zeros n x → get_or (word_bits n x) i false ≡ false
  unfolding bit_of
  no-start-before i h =
      let k : ℕ = n - 1 - i - suc top.0 in
      let e : suc top.0 + k ≡ n - 1 - i = omega (arith, top.1) in
      words-at n x i (omega (arith, top.1)) ∙ ap (bit_of x) (sym e) ∙ ap (λ (d : ℕ). eqb (d % 2) 1) (none (suc top.0) k top.3)
    where
      none : (j k : ℕ) → x < 2 ^ j → x / 2 ^ (j + k) ≡ 0
      none j k l = sym (shr-shr x j k) ∙ ap (λ (y : ℕ). y / 2 ^ k) (div-eq_of_lt l) ∙ zero-div (2 ^ k)

-- Of bits in which m ones begin first at bit p
module _ (m : ℕ) (pos : 1 ≤ m) where
  quiet : (a : Bool) (t : List Bool) → leading_ones (a ∷ t) < m → runs m (a ∷ t) ≡ runs m t
  quiet false t l = runs-false m t pos
  quiet true t l = runs-true m t l

  once : (p : ℕ) (b : List Bool) → ((i : ℕ) → i < p → leading_ones (drop i b) < m) → m ≤ leading_ones (drop p b) → runs m (take (p + m) b) ≡ 1
  once zero b none h = ap (λ (k : ℕ). runs m (take k b)) (zero-add m) ∙ ap (runs m) (lead-take m b h) ∙ runs-all m pos
  once (suc p) [] none h = absurd (omega arith)
  once (suc p) (a ∷ b) none h =
      let e : suc p + m ≡ suc (p + m) = omega arith in
      let l : leading_ones (a ∷ take (p + m) b) < m = omega (arith, none 0 (omega arith), leading-ones-part (suc (p + m)) (a ∷ b)) in
      ap (λ (k : ℕ). runs m (take k (a ∷ b))) e ∙ quiet a (take (p + m) b) l ∙ once p b (λ i l. none (suc i) (omega arith)) h

  module _ (b : List Bool) (p : ℕ) (one : get_or (run_starts m b) p false ≡ true) (none : (i : ℕ) → i < p → get_or (run_starts m b) i false ≡ false) where
    here : m ≤ leading_ones (drop p b)
    here = leb-true m (leading_ones (drop p b)) (sym (starts-at m b p pos) ∙ one)

    before : (i : ℕ) → i < p → leading_ones (drop i b) < m
    before i h = leb-false m (leading_ones (drop i b)) (sym (starts-at m b i pos) ∙ none i h)

    pub first-within : p + m ≤ length b
    first-within = omega (arith, here, lead-length (drop p b), length-drop p b)

    pub first_ends : take (p + m) b ≡ take p b ++ ones m
    first_ends = take-add p m b ∙ ap (λ (l : List Bool). take p b ++ l) (lead-take m (drop p b) here)

    -- what ends there is a codeword,
    pub first-coded : Codeword m (take (p + m) b)
    first-coded = record { once = once p b before here; body = take p b; ends = first_ends }

    -- and the bit before its last ones is a zero
    pub first-zero : 1 ≤ p → get_or b (p - 1) false ≡ false
    first-zero h = cases (get_or b (p - 1) false) refl
      where
        cases : (v : Bool) → get_or b (p - 1) false ≡ v → v ≡ false
        cases false e = refl
        cases true e =
            let s : suc (p - 1) ≡ p = omega arith in
            let d : drop (p - 1) b ≡ true ∷ drop p b =
            drop-cons b (p - 1) false (omega (arith, first-within)) ∙ ap₂ (λ (a : Bool) (n : ℕ). a ∷ drop n b) e s in
            let l : leading_ones (drop (p - 1) b) ≡ suc (leading_ones (drop p b)) = ap leading_ones d in
            absurd (omega (arith, before (p - 1) (omega arith), here))
