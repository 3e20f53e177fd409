-- Bits replaced by others: what is to be moved makes them, and the bytes of the buffer then.
use mathlib.Core.Path.{◌≡◌, sym, ap, ap₂, ◌∙◌}
use mathlib.Core.Bool.{Bool, false}
use mathlib.Core.List.{List, ◌++◌, append_assoc, flatten}
use Prim.Native.Nat.{ℕ, suc, ◌+◌, ◌-◌, ◌*◌, ◌/◌, ◌%◌, ◌^◌, ◌≤◌, ◌<◌}
use native.Mathlib.Omega.{arith}
use native.Mathlib.Nat.{add-zero}
use lib.ListN.{length, get_or, take, drop, replicate, length-append, length-drop, replicate-append-replicate}
use lib.Seq.{take-take, take-add, drop_at, drop-drop, drop-cons, length-take-le, get_or-take, get_or-drop, take-append-le, drop-append-le}
use Rattle.bits.specs.Bits.{Bytes, word_bits, unpack, byte_count, pack, padding}
use Rattle.bits.specs.Leaves.{fit}
use Rattle.bits.proofs.Words.{words-length, words-split, words-mod}
use Rattle.bits.proofs.Bytes.{unpack-append, unpack-take, unpack-drop, first-bits}
use Rattle.bits.proofs.Fit.{fit-long, fit-zeros}
use Rattle.bits.proofs.Packing.{unpack-pack, pack-length, pack-bytes, bytes-append, bytes_drop, unpack-apart}
use Rattle.bit_moves.specs.Splices.{splice}
use Rattle.bit_moves.specs.Leaves.{stream, Moved}
use Rattle.bit_moves.proofs.Words.{unpack-zeros, zeros-bytes}

-- ## What is to be moved

-- the last p bits of the byte in which the bits before bit `from` end, where that byte ends p bits after
byte-end : (s : List ℕ) (from p : ℕ) → 1 ≤ from → from ≤ 8 * length s → p < 8 → (from + p) % 8 ≡ 0
    → drop from (unpack s) ≡ word_bits p (get_or s ((from - 1) / 8) 0) ++ unpack (drop ((from + p) / 8) s)
unfolding unpack flatten
byte-end s from p h i k z =
    let q : ℕ = (from - 1) / 8 in
    let b : ℕ = get_or s q 0 in
    let at : 8 * q + (8 - p) ≡ from = omega arith in
    let next : (from + p) / 8 ≡ suc q = omega arith in
    let eight : 8 ≡ 8 - p + p = omega arith in
    let byte : drop (8 * q) (unpack s) ≡ word_bits (8 - p) (b / 2 ^ p) ++ (word_bits p b ++ unpack (drop (suc q) s)) =
    sym (unpack-drop s q) ∙ ap unpack (drop-cons s q 0 (omega arith))
    ∙ ap (λ (l : List Bool). l ++ unpack (drop (suc q) s)) (ap (λ (n : ℕ). word_bits n b) eight ∙ words-split (8 - p) p b)
    ∙ append_assoc (word_bits (8 - p) (b / 2 ^ p)) (word_bits p b) (unpack (drop (suc q) s)) in
    ap (λ (n : ℕ). drop n (unpack s)) (sym at) ∙ sym (drop-drop (8 - p) (8 * q) (unpack s)) ∙ ap (drop (8 - p)) byte
    ∙ drop_at (word_bits (8 - p) (b / 2 ^ p)) (word_bits p b ++ unpack (drop (suc q) s)) (8 - p) (words-length (8 - p) (b / 2 ^ p))
    ∙ ap (λ (n : ℕ). word_bits p b ++ unpack (drop n s)) (sym next)

module _ (s : List ℕ) (used at old : ℕ) (new : List Bool) (room : used ≤ length s) (some : 1 ≤ old) (in_use : at + old ≤ 8 * used)
    (whole : ℕ) (up : at + old ≤ 8 * whole) (down : 8 * whole < at + old + 8) where
  -- how many bits stay before byte `whole`, the first that is read whole
  abbrev pub others : ℕ
  others = 8 * whole - (at + old)

  pub stream-splice : (x c b d : ℕ) → b ≡ get_or s (at / 8) 0 → d ≡ get_or s (whole - 1) 0
      → word_bits c x ≡ word_bits (at % 8) (b / 2 ^ (8 - at % 8)) ++ (new ++ word_bits others (d % 2 ^ others))
      → stream used (whole - at / 8) c s (at / 8) x ≡ splice at old new (unpack (take used s))
  unfolding splice stream
  stream-splice x c b d eb ed e =
      let t : List ℕ = take used s in
      let u : List Bool = unpack t in
      let k : ℕ = at / 8 in
      let o : ℕ = at % 8 in
      let front : unpack (take k s) ≡ take (8 * k) u = ap unpack (sym (take-take k used s (omega arith))) ∙ unpack-take t k in
      let lt : length t ≡ used = length-take-le used s room in
      let zero-th : get_or (drop k t) 0 0 ≡ b =
      get_or-drop k t 0 0 ∙ ap (λ (n : ℕ). get_or t n 0) (add-zero k) ∙ get_or-take used s k 0 (omega arith) ∙ sym eb in
      let kept : word_bits o (b / 2 ^ (8 - o)) ≡ take o (drop (8 * k) u) =
      ap (λ (y : ℕ). word_bits o (y / 2 ^ (8 - o))) (sym zero-th) ∙ first-bits (drop k t) o (omega arith) (omega (arith, length-drop k t)) ∙ ap (take o) (unpack-drop t k) in
      let in-at : 8 * k + o ≡ at = omega arith in
      let first : take at u ≡ take (8 * k) u ++ take o (drop (8 * k) u) = ap (λ (n : ℕ). take n u) (sym in-at) ∙ take-add (8 * k) o u in
      let last : whole - 1 ≡ (at + old - 1) / 8 = omega arith in
      let byte : d ≡ get_or t ((at + old - 1) / 8) 0 =
      ed ∙ ap (λ (n : ℕ). get_or s n 0) last ∙ sym (get_or-take used s ((at + old - 1) / 8) 0 (omega arith)) in
      let same : (at + old + others) / 8 ≡ k + (whole - k) = omega arith in
      let tail : word_bits others (d % 2 ^ others) ++ unpack (drop (k + (whole - k)) t) ≡ drop (at + old) u =
      sym (byte-end t (at + old) others (omega arith) (omega arith) (omega arith) (omega arith)
      ∙ ap₂ (λ (y n : ℕ). word_bits others y ++ unpack (drop n t)) (sym byte) same
      ∙ ap (λ (l : List Bool). l ++ unpack (drop (k + (whole - k)) t)) (sym (words-mod others others d (omega arith)))) in
      let z : List Bool = unpack (drop (k + (whole - k)) t) in
      ap₂ (λ (u v : List Bool). u ++ (v ++ z)) front (e ∙ ap (λ (l : List Bool). l ++ (new ++ word_bits others (d % 2 ^ others))) kept)
      ∙ ap (λ (l : List Bool). take (8 * k) u ++ l)
      (append_assoc (take o (drop (8 * k) u)) (new ++ word_bits others (d % 2 ^ others)) z
      ∙ ap (λ (l : List Bool). take o (drop (8 * k) u) ++ l) (append_assoc new (word_bits others (d % 2 ^ others)) z ∙ ap (λ (l : List Bool). new ++ l) tail))
      ∙ sym (append_assoc (take (8 * k) u) (take o (drop (8 * k) u)) (new ++ drop (at + old) u)) ∙ ap (λ (l : List Bool). l ++ (new ++ drop (at + old) u)) (sym first)

  -- words moved from there on, and then the last bytes up to byte `end`
  pub spliced : (exit t : List ℕ) (end i w x c b d : ℕ) → used ≤ end → i ≤ used → Moved used (whole - at / 8) c (stream used (whole - at / 8) c s (at / 8) x) s t i w
      → b ≡ get_or s (at / 8) 0 → d ≡ get_or s (whole - 1) 0 → word_bits c x ≡ word_bits (at % 8) (b / 2 ^ (8 - at % 8)) ++ (new ++ word_bits others (d % 2 ^ others))
      → unpack exit ≡ fit (8 * end) (stream used (whole - at / 8) c t i w) ++ unpack (drop end t)
      → unpack exit ≡ fit (8 * end) (splice at old new (unpack (take used s))) ++ unpack (drop end s)
  spliced exit t end i w x c b d most l m eb ed e q =
      let k : i + (end - i) ≡ end = omega arith in
      let behind : drop end t ≡ drop end s =
      ap (λ (j : ℕ). drop j t) (sym k) ∙ sym (drop-drop (end - i) i t) ∙ ap (drop (end - i)) m.1 ∙ drop-drop (end - i) i s ∙ ap (λ (j : ℕ). drop j s) k in
      q ∙ ap₂ (λ (u : List Bool) (v : List ℕ). fit (8 * end) u ++ unpack v) (m.0 ∙ stream-splice x c b d eb ed e) behind

-- ## The bytes of the buffer

-- zeros behind the bits that are used are zeros behind what comes of them
splice-zeros : (at old k : ℕ) (new b : List Bool) → at + old ≤ length b
    → splice at old new (b ++ replicate k false) ≡ splice at old new b ++ replicate k false
unfolding splice
splice-zeros at old k new b h =
    ap₂ (λ (u v : List Bool). u ++ (new ++ v)) (take-append-le at b (replicate k false) (omega arith)) (drop-append-le (at + old) b (replicate k false) h)
    ∙ sym (append_assoc (take at b) (new ++ drop (at + old) b) (replicate k false) ∙ ap (λ (l : List Bool). take at b ++ l) (append_assoc new (drop (at + old) b) (replicate k false)))

pub splice-length : (at old : ℕ) (new b : List Bool) → at + old ≤ length b → length (splice at old new b) + old ≡ length b + length new
unfolding splice
splice-length at old new b h =
    omega (
      arith,
      length-append (take at b) (new ++ drop (at + old) b),
      length-append new (drop (at + old) b),
      length-take-le at b (omega arith),
      length-drop (at + old) b,
    )

-- the bits b in use are followed by zeros, and what comes of them fits: its packing, bytes of zeros up to byte `end`, and the bytes after it
pub splice-packed : (s ys : List ℕ) (used end at old k : ℕ) (new b : List Bool) → at + old ≤ length b → unpack (take used s) ≡ b ++ replicate k false
    → byte_count (length (splice at old new b)) ≤ end → Bytes s → Bytes ys
    → unpack ys ≡ fit (8 * end) (splice at old new (unpack (take used s))) ++ unpack (drop end s)
    → let written : List ℕ = pack (splice at old new b) in
    ys ≡ written ++ (replicate (end - length written) 0 ++ drop end s)
unfolding padding
splice-packed s ys used end at old k new b h e room bs by q =
    let r : List Bool = splice at old new b in
    let z : ℕ = end - length (pack r) in
    let more : 8 * byte_count (length r) - length r + 8 * z ≡ 8 * end - length r = omega (arith, pack-length r) in
    let all : 8 * end ≡ length r + (8 * end - length r) = omega arith in
    let target : unpack (pack r ++ (replicate z 0 ++ drop end s)) ≡ (r ++ replicate (8 * end - length r) false) ++ unpack (drop end s) =
    unpack-append (pack r) (replicate z 0 ++ drop end s)
    ∙ ap₂ (λ (u v : List Bool). u ++ v) (unpack-pack r) (unpack-append (replicate z 0) (drop end s) ∙ ap (λ (l : List Bool). l ++ unpack (drop end s)) (unpack-zeros z))
    ∙ append_assoc r (replicate (8 * byte_count (length r) - length r) false) (replicate (8 * z) false ++ unpack (drop end s))
    ∙ ap (λ (l : List Bool). r ++ l)
    (sym (append_assoc (replicate (8 * byte_count (length r) - length r) false) (replicate (8 * z) false) (unpack (drop end s)))
    ∙ ap (λ (l : List Bool). l ++ unpack (drop end s))
    (replicate-append-replicate (8 * byte_count (length r) - length r) (8 * z) false ∙ ap (λ (n : ℕ). replicate n false) more))
    ∙ sym (append_assoc r (replicate (8 * end - length r) false) (unpack (drop end s))) in
    let source : fit (8 * end) (splice at old new (unpack (take used s))) ≡ r ++ replicate (8 * end - length r) false =
    ap (λ (l : List Bool). fit (8 * end) (splice at old new l)) e ∙ ap (fit (8 * end)) (splice-zeros at old k new b h) ∙ fit-zeros (8 * end) k r
    ∙ ap (λ (n : ℕ). fit n r) all ∙ fit-long r (8 * end - length r) in
    unpack-apart ys (pack r ++ (replicate z 0 ++ drop end s)) by
    (bytes-append (pack r) _ (pack-bytes r) (bytes-append (replicate z 0) _ (zeros-bytes z) (bytes_drop end s bs)))
    (q ∙ ap (λ (l : List Bool). l ++ unpack (drop end s)) source ∙ sym target)
