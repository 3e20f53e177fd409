-- What building answers and leaves behind, check by check.
use mathlib.Core.Path.{◌≡◌, refl, sym, ap, ap₂, ◌∙◌}
use mathlib.Core.Bool.{Bool, false}
use mathlib.Core.List.{List, [], ◌∷◌, ◌++◌, flatten}
use Prim.Native.Nat.{ℕ, zero, suc, ◌+◌, ◌-◌, ◌*◌, ◌≤◌, ◌<◌}
use native.Mathlib.Omega.{arith}
use native.Mathlib.Nat.{zero-add}
use lib.Dec.{ltb}
use lib.ListN.{length, take, drop, replicate, length-replicate, replicate-append-replicate}
use lib.Seq.{sets, sets-eq, take_at, drop_at, take-append-add}
use borrow.Author.Tests.{lt-ltb, le-ltb}
use Rattle.bits.specs.Bits.{Bytes, unpack, byte_count, pack, padding}
use Rattle.bits.proofs.Words.{words-zero}
use Rattle.bits.proofs.Bytes.{unpack-take}
use Rattle.bits.proofs.Packing.{pack-length, pack-bytes, unpack-pack, unpack-apart}
use Rattle.calls.proofs.Checks.{each-passed, each-refused}
use Rattle.calls.specs.declared.Refusal.{Refusal}
use Rattle.calls.specs.declared.Refusal.TheVariants.{NoRoom, OutsideAlphabet}
use Rattle.calls.specs.Calls.{Outcome, check, buffer}
use Rattle.calls.specs.Limits.{Legal, check_each}
use Rattle.wavelet.specs.Bitmaps.{bitmaps, index}
use Rattle.wavelet.specs.Questions.{check_tree, build, build_into}
use Rattle.wavelet.specs.Leaves.{Passed}
use Rattle.wavelet.proofs.Answering.{tree-legal, tree-refused}
use Rattle.std.specs.Prelude.{Ok, Err}

-- ## The bytes that were written

-- the bits of bytes that are 0
zero_bits : (k : ℕ) → unpack (replicate k 0) ≡ replicate (8 * k) false
unfolding unpack flatten
zero_bits zero = refl
zero_bits (suc k) =
    let e : 8 + 8 * k ≡ 8 * suc k = omega arith in
    ap₂ (λ (u v : List Bool). u ++ v) (words-zero 8) (zero_bits k) ∙ replicate-append-replicate 8 (8 * k) false ∙ ap (λ (n : ℕ). replicate n false) e

-- zeros are zeros in part
zeros-split : (n k : ℕ) → n ≤ k → replicate n false ++ replicate (k - n) false ≡ replicate k false
zeros-split n k h =
    let e : n + (k - n) ≡ k = omega arith in
    replicate-append-replicate n (k - n) false ∙ ap (λ (i : ℕ). replicate i false) e

zeros-take : (n k : ℕ) → n ≤ k → take n (replicate k false) ≡ replicate n false
zeros-take n k h = ap (take n) (sym (zeros-split n k h)) ∙ take_at (replicate n false) (replicate (k - n) false) n (length-replicate n false)

zeros-drop : (n k : ℕ) → n ≤ k → drop n (replicate k false) ≡ replicate (k - n) false
zeros-drop n k h = ap (drop n) (sym (zeros-split n k h)) ∙ drop_at (replicate n false) (replicate (k - n) false) n (length-replicate n false)

-- bits set from the front of k bytes that were 0
module _ (k : ℕ) (b : List ℕ) (s : List Bool) (h : length s ≤ 8 * k) (e : unpack b ≡ sets (unpack (replicate k 0)) 0 s) where
  -- they stand before zeros
  front : unpack b ≡ s ++ replicate (8 * k - length s) false
  front =
      let l : List Bool = replicate (8 * k) false in
      let n : 0 + length s ≡ length s = zero-add (length s) in
      e ∙ ap (λ (l : List Bool). sets l 0 s) (zero_bits k) ∙ sets-eq s l 0 (omega (arith, length-replicate (8 * k) false))
      ∙ ap (λ (i : ℕ). s ++ drop i l) n ∙ ap (λ (l : List Bool). s ++ l) (zeros-drop (length s) (8 * k) h)

  -- the bytes that hold them are their packing
  packed-front : Bytes (take (byte_count (length s)) b) → take (byte_count (length s)) b ≡ pack s
  unfolding padding
  packed-front bytes =
      let n : ℕ = length s in
      let c : ℕ = byte_count n in
      let p : 8 * c ≡ n + (8 * c - n) = omega arith in
      unpack-apart (take c b) (pack s) bytes (pack-bytes s) (
      unpack-take b c ∙ ap (take (8 * c)) front ∙ ap (λ (i : ℕ). take i (s ++ replicate (8 * k - n) false)) p
      ∙ take-append-add s (replicate (8 * k - n) false) (8 * c - n)
      ∙ ap (λ (l : List Bool). s ++ l) (zeros-take (8 * c - n) (8 * k - n) (omega arith)) ∙ sym (unpack-pack s))

-- bytes are bytes at their front
bytes-front : (s t : List ℕ) → Bytes (s ++ t) → Bytes s
bytes-front [] t h i = omega arith
bytes-front (x ∷ s) t h zero = h 0
bytes-front (x ∷ s) t h (suc i) = bytes-front s t (λ j. h (suc j)) i

-- ## The answers, check by check

-- the answer, as an outcome, and the output afterwards
abbrev Built : ℕ → ℕ → List ℕ → List ℕ → List ℕ → Outcome ℕ → Type 0
Built m N row before after outcome = (outcome ≡ build m N row (length before)) × (after ≡ build_into m N row before)

module _ (m N : ℕ) (row before : List ℕ) where
  answer : (outcome : Outcome ℕ) → build m N row (length before) ≡ outcome → Built m N row before (buffer outcome (index m N row) before) outcome
  unfolding build_into
  answer outcome e = (sym e, ap (λ (o : Outcome ℕ). buffer o (index m N row) before) (sym e))

  -- the order, the alphabet or the length
  pub build-refused : (r : Refusal) → check_tree m N (length row) (Ok N) ≡ Err r → Built m N row before before (Err r)
  unfolding build
  build-refused r e = answer (Err r) (tree-refused m N (length row) e _)

  module _ (p : Passed m N (length row)) where
    -- a number
    pub build-number : (r : Refusal) → Err r ≡ check_each OutsideAlphabet N 0 row (Ok (length row)) → Built m N row before before (Err r)
    unfolding build
    build-number r e = answer (Err r) (tree-legal m N (length row) p _ ∙ each-refused OutsideAlphabet N 0 row (length row) r _ (sym e))

    module _ (numbers : Legal N row) (bits : ℕ) (long : bits ≡ length (bitmaps m N row)) where
      bytes : length (index m N row) ≡ byte_count bits
      unfolding index
      bytes = rw (pack-length (bitmaps m N row), long)

      -- what comes after the checks of the numbers
      decided : build m N row (length before) ≡ check NoRoom (ltb (length before) (byte_count bits)) (Ok bits)
      unfolding build
      decided = tree-legal m N (length row) p _ ∙ each-passed OutsideAlphabet N 0 row _ numbers ∙ rw (bytes, long)

      -- the output is too short
      pub build-room : length before < byte_count bits → Built m N row before before (Err NoRoom)
      build-room h = answer (Err NoRoom) (decided ∙ rw (lt-ltb (length before) (byte_count bits) h))

      -- the first bytes of b, which were 0 before the bitmaps were set in them, are copied
      pub build-done : (k : ℕ) (b after : List ℕ) → bits ≤ 8 * k → unpack b ≡ sets (unpack (replicate k 0)) 0 (bitmaps m N row)
          → byte_count bits ≤ length before → after ≡ take (byte_count bits) b ++ drop (byte_count bits) before → Bytes after
          → Built m N row before after (Ok bits)
      unfolding index
      build-done k b after few e h copied small =
          let x = answer (Ok bits) (decided ∙ rw (le-ltb (length before) (byte_count bits) h)) in
          let low : Bytes (take (byte_count bits) b) = bytes-front (take (byte_count bits) b) (drop (byte_count bits) before) (rw copied at small) in
          let front : take (byte_count bits) b ≡ index m N row = rw long (packed-front k b (bitmaps m N row) (omega arith) e (rw (← long) low)) in
          (x.0, copied ∙ ap₂ (λ (l : List ℕ) (n : ℕ). l ++ drop n before) front (sym bytes) ∙ x.1)
