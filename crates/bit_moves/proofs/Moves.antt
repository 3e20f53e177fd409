-- Bits moved by words: a word more, or the last bytes, and what all makes stays the same.
use mathlib.Core.Path.{◌≡◌, sym, ap, ap₂, subst, ◌∙◌}
use mathlib.Core.Bool.{Bool}
use mathlib.Core.List.{List, ◌++◌, append_assoc, append-nil}
use Prim.Native.Nat.{ℕ, ◌+◌, ◌-◌, ◌*◌, ◌/◌, ◌^◌, ◌≤◌, ◌<◌, min}
use native.Mathlib.Omega.{arith}
use native.Mathlib.Decide.{dec_le}
use lib.ListN.{length, take, drop, length-append, length-take, length-drop, take-append-drop, drop_of_length-le}
use borrow.Rule.Slice.PartMut.{put_mid}
use Rattle.std.proofs.lemmas.Slice.{take-put_mid, drop-put_mid}
use lib.Seq.{take_all, drop-drop, length-take-le}
use Rattle.lists.proofs.Lists.{drop-take, take_inner}
use Rattle.bits.specs.Bits.{word_bits, unpack}
use Rattle.bits.specs.Leaves.{fit}
use Rattle.bits.proofs.Words.{words-length}
use Rattle.bits.proofs.Bytes.{unpack-append, unpack-length, unpack-drop}
use Rattle.bits.proofs.Fit.{fit-short, fit-split, fit-take, fit-behind}
use Rattle.bits.proofs.Put.{word_bytes, unpack-word}
use Rattle.bit_moves.specs.Leaves.{stream, Moved}
use Rattle.bit_moves.proofs.Words.{words-top, word_read}

-- where two buffers agree from byte i on, so do their bytes in use from any later byte on
same_source : (i gap used : ℕ) (s t : List ℕ) → drop i s ≡ drop i t → drop (i + gap) (take used s) ≡ drop (i + gap) (take used t)
same_source i gap used s t e =
    drop-take (i + gap) used s ∙ ap (take (used - (i + gap))) (sym (drop-drop gap i s) ∙ ap (drop gap) e ∙ drop-drop gap i t)
    ∙ sym (drop-take (i + gap) used t)

-- t is s with n bytes x from byte i on
abbrev pub Stored : List ℕ → ℕ → ℕ → List ℕ → List ℕ → Type 0
Stored s i n x t = (take (i + n) t ≡ take i s ++ x) × (drop (i + n) t ≡ drop (i + n) s) × (length t ≡ length s)

-- n bytes stored in the part that they fill
pub stored : (s x ys : List ℕ) (i n : ℕ) → i + n ≤ length s → length x ≡ n → ys ≡ x ++ drop n (take (i + n - i) (drop i s)) → Stored s i n x (put_mid i (i + n - i) s ys)
stored s x ys i n h l e =
    let same : ys ≡ x = e ∙ ap (λ (z : List ℕ). x ++ z) (drop_of_length-le (take (i + n - i) (drop i s)) {i = n} (omega (arith, length-take (i + n - i) (drop i s)))) ∙ append-nil x in
    let long : length ys ≡ n = ap length same ∙ l in
    let front = take-put_mid i (i + n - i) s ys (i + n) (omega arith) (omega arith) in
    let behind = drop-put_mid i (i + n - i) s ys (i + n) (omega arith) (omega arith) (omega arith) in
    let rest : List ℕ = drop (i + n - i) (drop i s) in (
      front ∙ ap (λ (z : List ℕ). take i s ++ z) same,
      behind,
      omega (arith, length-append (take i s) (ys ++ rest), length-append ys rest, length-take-le i s (omega arith), length-drop (i + n - i) (drop i s), length-drop i s),
    )

-- ## A word more

module _ (used gap c : ℕ) (s : List ℕ) (i before w r : ℕ) where
  -- what is still to be read
  abbrev source : List Bool
  source = unpack (drop (i + gap) (take used s))

  module _ (read : word_bits 64 w ≡ fit 64 source) (two : word_bits 64 r ++ word_bits c w ≡ word_bits c before ++ word_bits 64 w) where
    -- what is written and what is left over, behind any bits
    word-then : (z : List Bool) → word_bits 64 r ++ (word_bits c w ++ z) ≡ word_bits c before ++ (fit 64 source ++ z)
    word-then z =
        sym (append_assoc (word_bits 64 r) (word_bits c w) z) ∙ ap (λ (l : List Bool). l ++ z) two ∙ append_assoc (word_bits c before) (word_bits 64 w) z
        ∙ ap (λ (l : List Bool). word_bits c before ++ (l ++ z)) read

    module _ (t : List ℕ) (x : Stored s i 8 (word_bytes 8 r) t) where
      -- the word r in front of what is left over and still to be read
      stream-word : stream used gap c t (i + 8) w ≡ unpack (take i s) ++ (word_bits c before ++ (fit 64 source ++ drop 64 source))
      unfolding stream
      stream-word =
          let at : i + gap + 8 ≡ i + 8 + gap = omega arith in
          let next : unpack (drop (i + 8 + gap) (take used t)) ≡ drop 64 source =
          ap unpack (same_source (i + 8) gap used t s x.1) ∙ ap (λ (k : ℕ). unpack (drop k (take used s))) (sym at)
          ∙ ap unpack (sym (drop-drop 8 (i + gap) (take used s))) ∙ unpack-drop (drop (i + gap) (take used s)) 8 in
          ap₂ (λ (u v : List Bool). u ++ (word_bits c w ++ v))
          (ap unpack x.0 ∙ unpack-append (take i s) (word_bytes 8 r) ∙ ap (λ (l : List Bool). unpack (take i s) ++ l) (unpack-word 8 r)) next
          ∙ append_assoc (unpack (take i s)) (word_bits 64 r) (word_bits c w ++ drop 64 source)
          ∙ ap (λ (l : List Bool). unpack (take i s) ++ l) (word-then (drop 64 source))

      -- a whole word was in use
      pub word_moved : i + gap + 8 ≤ used → used ≤ length s → stream used gap c t (i + 8) w ≡ stream used gap c s i before
      unfolding stream
      word_moved m l =
          let long : 64 ≤ length source =
          omega (arith, unpack-length (drop (i + gap) (take used s)), length-drop (i + gap) (take used s), length-take-le used s l) in
          stream-word
          ∙ ap (λ (b : List Bool). unpack (take i s) ++ (word_bits c before ++ b))
          (ap (λ (b : List Bool). b ++ drop 64 source) (fit-take 64 source long) ∙ take-append-drop 64 source)

      -- none, or only a part of it
      pub word-filled : (n : ℕ) → fit n (stream used gap c t (i + 8) w) ≡ fit n (stream used gap c s i before)
      unfolding stream
      word-filled n =
          ap (fit n) (stream-word ∙ sym (append_assoc (unpack (take i s)) (word_bits c before) (fit 64 source ++ drop 64 source)))
          ∙ fit-behind n 64 (unpack (take i s) ++ word_bits c before) source
          ∙ ap (fit n) (append_assoc (unpack (take i s)) (word_bits c before) source)

    -- the last n bytes
    module _ (n : ℕ) (few : n ≤ 8) (h : i ≤ length s) (t : List ℕ) (x : Stored s i n (word_bytes n (r / 2 ^ (64 - 8 * n))) t) where
      pub last-moved : unpack (take (i + n) t) ≡ fit (8 * (i + n)) (stream used gap c s i before)
      unfolding stream
      last-moved =
          let v : ℕ = r / 2 ^ (64 - 8 * n) in
          let b : List Bool = word_bits c before ++ source in
          let lf : length (unpack (take i s)) ≡ 8 * i = unpack-length (take i s) ∙ ap (λ (k : ℕ). 8 * k) (length-take-le i s h) in
          let k : 8 * (i + n) - length (unpack (take i s)) ≡ 8 * n = omega arith in
          let bits : word_bits (8 * n) v ≡ fit (8 * n) b =
          words-top n r few ∙ sym (fit-short (8 * n) (word_bits 64 r) (word_bits c w ++ drop 64 source) (omega (arith, words-length 64 r)))
          ∙ ap (fit (8 * n)) (word-then (drop 64 source)) ∙ fit-behind (8 * n) 64 (word_bits c before) source in
          ap unpack x.0 ∙ unpack-append (take i s) (word_bytes n v) ∙ ap (λ (l : List Bool). unpack (take i s) ++ l) (unpack-word n v ∙ bits)
          ∙ sym (fit-split (8 * (i + n)) (unpack (take i s)) b (omega arith) ∙ ap (λ (j : ℕ). unpack (take i s) ++ fit j b) k)

-- a word more of bytes that are moved by words
module _ (used gap c : ℕ) (all : List Bool) (first s : List ℕ) (i before w r : ℕ) (m : Moved used gap c all first s i before) (in_use : i + gap + 8 ≤ used)
    (room : used ≤ length s) (read : word_bits 64 w ≡ unpack (take 8 (drop (i + gap) s)))
    (two : word_bits 64 r ++ word_bits c w ≡ word_bits c before ++ word_bits 64 w) (t : List ℕ) (x : Stored s i 8 (word_bytes 8 r) t) where
  read-in-use : word_bits 64 w ≡ fit 64 (unpack (drop (i + gap) (take used s)))
  read-in-use =
      word_read (take used s) (i + gap) w (omega (arith, length-take-le used s room)) (read ∙ ap unpack (sym (take_inner 8 (i + gap) used s in_use)))

  pub moved_word : Moved used gap c all first t (i + 8) w
  moved_word = (
    word_moved used gap c s i before w r read-in-use two t x in_use room ∙ m.0,
    x.1 ∙ sym (drop-drop 8 i s) ∙ ap (drop 8) m.1 ∙ drop-drop 8 i first,
    x.2 ∙ m.2,
  )

-- ## The last words

-- all is moved up to byte `end`
stream_end : (used gap c end w : ℕ) (s : List ℕ) → end ≤ length s → fit (8 * end) (stream used gap c s end w) ≡ unpack (take end s)
unfolding stream
stream_end used gap c end w s h =
    let l : length (unpack (take end s)) ≡ 8 * end = unpack-length (take end s) ∙ ap (λ (k : ℕ). 8 * k) (length-take-le end s h) in
    fit-short (8 * end) (unpack (take end s)) (word_bits c w ++ unpack (drop (end + gap) (take used s))) (omega arith)
    ∙ take_all (8 * end) (unpack (take end s)) (omega arith)

pub moved-end : (used gap c end i w : ℕ) (s before : List ℕ) (all : List Bool) → end ≤ length s → i ≤ end → end ≤ i → drop end s ≡ drop end before
    → fit (8 * end) (stream used gap c s i w) ≡ all → unpack s ≡ all ++ unpack (drop end before)
moved-end used gap c end i w s before all room m l same e =
    let at : i ≡ end = omega arith in
    ap unpack (sym (take-append-drop end s)) ∙ unpack-append (take end s) (drop end s)
    ∙ ap₂ (λ (u v : List Bool). u ++ v)
    (sym (stream_end used gap c end w s room) ∙ ap (λ (k : ℕ). fit (8 * end) (stream used gap c s k w)) (sym at) ∙ e) (ap unpack same)

module _ (used end gap c : ℕ) (s : List ℕ) (i before w r n : ℕ) (read : word_bits 64 w ≡ fit 64 (unpack (drop (i + gap) (take used s))))
    (two : word_bits 64 r ++ word_bits c w ≡ word_bits c before ++ word_bits 64 w) (least : n ≡ min (end - i) 8) (h : i < end) (room : end ≤ length s) (t : List ℕ)
    (x : Stored s i n (word_bytes n (r / 2 ^ (64 - 8 * n))) t) where
  whole_word : n ≡ 8 → fit (8 * end) (stream used gap c t (i + n) w) ≡ fit (8 * end) (stream used gap c s i before)
  whole_word eight =
      let all : r / 2 ^ (64 - 8 * 8) ≡ r = omega arith in
      let whole : Stored s i 8 (word_bytes 8 r) t =
      subst (λ (v : ℕ). Stored s i 8 (word_bytes 8 v) t) all (subst (λ (k : ℕ). Stored s i k (word_bytes k (r / 2 ^ (64 - 8 * k))) t) eight x) in
      ap (λ (k : ℕ). fit (8 * end) (stream used gap c t (i + k) w)) eight ∙ word-filled used gap c s i before w r read two t whole (8 * end)

  rest-behind : drop end t ≡ drop end s
  rest-behind =
      let k : i + n + (end - (i + n)) ≡ end = omega arith in
      ap (λ (j : ℕ). drop j t) (sym k) ∙ sym (drop-drop (end - (i + n)) (i + n) t) ∙ ap (drop (end - (i + n))) x.1
      ∙ drop-drop (end - (i + n)) (i + n) s ∙ ap (λ (j : ℕ). drop j s) k

  rest-moved : fit (8 * end) (stream used gap c t (i + n) w) ≡ fit (8 * end) (stream used gap c s i before)
  rest-moved =
      elim (dec_le 8 (end - i)) [
        | yes l ↦ whole_word (omega arith)
        | no l ↦
            let last : i + n ≡ end = omega arith in
            ap (λ (k : ℕ). fit (8 * end) (stream used gap c t k w)) last ∙ stream_end used gap c end w t (omega (arith, x.2))
            ∙ ap (λ (k : ℕ). unpack (take k t)) (sym last) ∙ last-moved used gap c s i before w r read two n (omega arith) (omega arith) t x
            ∙ ap (λ (k : ℕ). fit (8 * k) (stream used gap c s i before)) last
      ]

  -- a word more, or a part of one
  pub moved-rest : (length t ≡ length s) × (drop end t ≡ drop end s) × (fit (8 * end) (stream used gap c t (i + n) w) ≡ fit (8 * end) (stream used gap c s i before))
  moved-rest = (x.2, rest-behind, rest-moved)
