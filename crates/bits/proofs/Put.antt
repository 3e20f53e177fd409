-- Bits put into a buffer: by the bytes of a word, through a part of the buffer, and one after the other.
use mathlib.Core.Path.{◌≡◌, refl, sym, ap, ap₂, ◌∙◌}
use mathlib.Core.Bool.{Bool, false}
use mathlib.Core.List.{List, [], ◌∷◌, ◌++◌, append_assoc, append-nil}
use Prim.Native.Nat.{ℕ, zero, suc, ◌+◌, ◌-◌, ◌*◌, ◌/◌, ◌%◌, ◌^◌, ◌≤◌, ◌<◌}
use native.Mathlib.Omega.{arith}
use native.Mathlib.Nat.{add-zero, zero-add, suc-add, div-one, pow-suc}
use lib.ListN.{length, get_or, take, drop, replicate, length-append, length-replicate, length-drop, replicate-append-replicate, take-append-drop, drop_of_length-le}
use lib.Seq.{take_at, take_all, take-take, drop_at, drop-drop, drop-cons, length-take-le, take-append_seam, take-append-add, drop-append-add}
use lib.Pow.{shl_exact, pow-add}
use lib.Bits.{bit_or, or_shifted}
use lib.Arith.{digits_lt}
use Rattle.std.specs.Int.{w64, byte_at, bytes_high_first, from_be_bytes}
use Rattle.std.proofs.lemmas.Nat.{be_bytes_8}
use Rattle.bits.specs.Bits.{Bytes, word_bits, unpack, bytes_of, byte_count, pack, padding}
use Rattle.bits.specs.Leaves.{put_to, put_at, fit}
use Rattle.bits.proofs.Words.{words-length, words-split, words-join, words-padded}
use Rattle.bits.proofs.Bytes.{unpack-append, unpack-length, unpack-drop, high-below, top-bits, first-bits}
use Rattle.bits.proofs.Fit.{fit-long}
use Rattle.bits.proofs.Packing.{unpack-bytes, unpack-pack, word-of-bits, bytes-append, bytes_drop, bytes_take, pack-bytes, pack-length, unpack-apart}

-- ## The bytes of a word

abbrev pub word_bytes : ℕ → ℕ → List ℕ
word_bytes n w = bytes_of n (word_bits (8 * n) w)

word-bytes : (n w : ℕ) → word_bytes (suc n) w ≡ (w / 2 ^ (8 * n) % 256) ∷ word_bytes n w
unfolding bytes_of
word-bytes n w =
    let e : 8 * suc n ≡ 8 + 8 * n = omega arith in
    let h : List Bool = word_bits 8 (w / 2 ^ (8 * n)) in
    ap (λ (k : ℕ). bytes_of (suc n) (word_bits k w)) e ∙ ap (bytes_of (suc n)) (words-split 8 (8 * n) w)
    ∙ ap₂ (λ (x : ℕ) (l : List Bool). x ∷ bytes_of n l) (word-of-bits 8 (w / 2 ^ (8 * n)) (word_bits (8 * n) w))
    (drop_at h (word_bits (8 * n) w) 8 (words-length 8 (w / 2 ^ (8 * n))))

pub word-length : (n w : ℕ) → length (word_bytes n w) ≡ n
word-length zero w = unfold bytes_of in refl
word-length (suc n) w = ap length (word-bytes n w) ∙ ap suc (word-length n w)

-- the library's bytes of a number, the highest first, are these
byte-of-word : (k w : ℕ) → byte_at k w ≡ w / 2 ^ (8 * k) % 256
byte-of-word zero w = ap (λ (x : ℕ). x % 256) (sym (div-one w))
byte-of-word (suc k) w = ap (λ (x : ℕ). w / x % 256) (worth (suc k))
  where
    worth : (k : ℕ) → 256 ^ k ≡ 2 ^ (8 * k)
    worth zero = refl
    worth (suc k) = let e : 8 * suc k ≡ 8 * k + 8 = omega arith in rw (pow-suc 256 k, worth k, e) (sym (pow-add 2 (8 * k) 8))

pub high_bytes : (n w : ℕ) → bytes_high_first n w ≡ word_bytes n w
high_bytes zero w = unfold bytes_of in refl
high_bytes (suc n) w = ap₂ (λ (x : ℕ) (l : List ℕ). x ∷ l) (byte-of-word n w) (high_bytes n w) ∙ sym (word-bytes n w)

-- the last n of them
pub low_bytes : (n w : ℕ) → n ≤ 8 → {l : List ℕ} → l ≡ bytes_high_first 8 w → take (8 - (8 - n)) (drop (8 - n) l) ≡ word_bytes n w
low_bytes n w h e =
    let n-bytes : 8 ≡ 8 - n + n = omega arith in
    ap (λ (l : List ℕ). take (8 - (8 - n)) (drop (8 - n) l)) (e ∙ ap (λ (k : ℕ). bytes_high_first k w) n-bytes) ∙ ap (take (8 - (8 - n))) (last (8 - n) ∙ high_bytes n w)
    ∙ take_all (8 - (8 - n)) (word_bytes n w) (omega (arith, word-length n w))
  where
    last : (k : ℕ) → drop k (bytes_high_first (k + n) w) ≡ bytes_high_first n w
    last zero = rw zero-add
    last (suc k) = rw suc-add (last k)

pub unpack-word : (n w : ℕ) → unpack (word_bytes n w) ≡ word_bits (8 * n) w
unpack-word n w =
    let e : 8 * n ≡ length (word_bits (8 * n) w) + 0 = omega (arith, words-length (8 * n) w) in
    unpack-bytes n (word_bits (8 * n) w) ∙ ap (λ (k : ℕ). fit k (word_bits (8 * n) w)) e ∙ fit-long (word_bits (8 * n) w) 0
    ∙ append-nil (word_bits (8 * n) w)

-- n elements from i + j on
abbrev elements : List ℕ → ℕ → ℕ → ℕ → List ℕ
elements s i j zero = []
elements s i j (suc n) = get_or s (i + j) 0 ∷ elements s i (suc j) n

elements-of : (s : List ℕ) (i j n : ℕ) → i + j + n ≤ length s → take n (drop (i + j) s) ≡ elements s i j n
elements-of s i j zero h = refl
elements-of s i j (suc n) h =
    let e : suc (i + j) ≡ i + suc j = omega arith in
    ap (take (suc n)) (drop-cons s (i + j) 0 (omega arith))
    ∙ ap (λ (l : List ℕ). get_or s (i + j) 0 ∷ l) (ap (λ (k : ℕ). take n (drop k s)) e ∙ elements-of s i (suc j) n (omega arith))

-- eight bytes read as a word
pub be-below : (l : List ℕ) → Bytes l → from_be_bytes w64 l < 2 ^ 64
be-below l b = omega (arith, b 0, b 1, b 2, b 3, b 4, b 5, b 6, b 7)

pub be-bits : (l : List ℕ) → length l ≡ 8 → Bytes l → {w : ℕ} → w ≡ from_be_bytes w64 l → word_bits 64 w ≡ unpack l
be-bits l n b {w} e = sym (unpack-word 8 w) ∙ ap unpack (sym (high_bytes 8 w) ∙ be_bytes_8 l w n b e)

pub word-read : (s : List ℕ) (i : ℕ) → i + 8 ≤ length s → Bytes s → {w : ℕ} → w ≡ from_be_bytes w64 (get_or s i 0 ∷ elements s i 1 7)
    → word_bits 64 w ≡ unpack (take 8 (drop i s))
word-read s i h b e =
    let these : take 8 (drop i s) ≡ get_or s i 0 ∷ elements s i 1 7 =
    ap (λ (k : ℕ). take 8 (drop k s)) (sym (add-zero i)) ∙ elements-of s i 0 8 (omega arith) ∙ ap (λ (k : ℕ). get_or s k 0 ∷ elements s i 1 7) (add-zero i) in
    be-bits (take 8 (drop i s)) (length-take-le 8 (drop i s) (omega (arith, length-drop i s))) (bytes_take 8 (drop i s) (bytes_drop i s b))
    (e ∙ ap (from_be_bytes w64) (sym these))

-- ## A word after the first bits of a buffer

-- in a word of 64 bits the shifts lose nothing
shifted : (o len pad kept word : ℕ) → kept < 2 ^ o → word < 2 ^ len → o + len + pad ≤ 64
    → bit_or (kept * 2 ^ len % 2 ^ 64) word * 2 ^ pad % 2 ^ 64 ≡ (kept * 2 ^ len + word) * 2 ^ pad
shifted o len pad kept word hk hw h =
    let e : bit_or (kept * 2 ^ len % 2 ^ 64) word ≡ kept * 2 ^ len + word =
    ap (λ (x : ℕ). bit_or x word) (shl_exact o len 64 hk (omega arith)) ∙ or_shifted kept len word hw in
    let b : kept * 2 ^ len + word < 2 ^ (o + len) = rw (pow-add 2 o len) (digits_lt hk hw) in
    ap (λ (x : ℕ). x * 2 ^ pad % 2 ^ 64) e ∙ shl_exact (o + len) pad 64 b h

-- put together by shifts: a byte with the word after its first bits
pub joined_bits : (first o word len width : ℕ) → (o < 8) × (8 ≤ width) × (o + len ≤ width) × (width ≤ 64) → word < 2 ^ len → first < 256
    → word_bits width (bit_or (first / 2 ^ (8 - o) * 2 ^ len % 2 ^ 64) word * 2 ^ (width - (o + len)) % 2 ^ 64) ≡ put_to o (word_bits len word) width (word_bits 8 first)
unfolding put_to
joined_bits first o word len width fits small byte =
    let pad : ℕ = width - (o + len) in
    let kept : ℕ = first / 2 ^ (8 - o) in
    let n : width ≡ o + len + pad = omega arith in
    let none : drop width (word_bits 8 first) ≡ [] = drop_of_length-le (word_bits 8 first) {i = width} (omega (arith, words-length 8 first)) in
    ap (word_bits width) (shifted o len pad kept word (high-below first o (omega arith) byte) small (omega arith))
    ∙ ap (λ (k : ℕ). word_bits k ((kept * 2 ^ len + word) * 2 ^ pad)) n ∙ words-padded (o + len) pad (kept * 2 ^ len + word)
    ∙ ap (λ (l : List Bool). l ++ replicate pad false)
    (words-join o len kept word small ∙ ap (λ (l : List Bool). l ++ word_bits len word) (top-bits first o (omega arith)))
    ∙ rw (words-length len word, none) (simp (append_assoc, append-nil))

-- put into the first byte as a word, and stored over the first bytes: put into the buffer
pub put-stored : (s ys : List ℕ) (o c w : ℕ) (new : List Bool) → o < 8 → 1 ≤ c → 1 ≤ length s
    → word_bits (8 * c) w ≡ put_to o new (8 * c) (word_bits 8 (get_or s 0 0)) → ys ≡ word_bytes c w ++ drop c s → unpack ys ≡ put_to o new (8 * c) (unpack s)
unfolding put_to
put-stored s ys o c w new h k i e y =
    let b : List Bool = word_bits 8 (get_or s 0 0) in
    let none : drop (8 * c) b ≡ [] = drop_of_length-le b {i = 8 * c} (omega (arith, words-length 8 (get_or s 0 0))) in
    let first : take o b ≡ take o (unpack s) = sym (top-bits (get_or s 0 0) o (omega arith)) ∙ first-bits s o (omega arith) i in
    ap unpack y ∙ unpack-append (word_bytes c w) (drop c s)
    ∙ ap₂ (λ (u v : List Bool). u ++ v) (unpack-word c w ∙ e) (unpack-drop s c)
    ∙ rw (none, first) (simp (append_assoc, append-nil))

-- the same to the end of the byte that the new bits reach
pub put-stored-at : (s ys : List ℕ) (o c w len x : ℕ) → o < 8 → 1 ≤ c → 1 ≤ length s → c ≡ byte_count (o + len)
    → word_bits (8 * c) w ≡ put_to o (word_bits len x) (8 * c) (word_bits 8 (get_or s 0 0)) → ys ≡ word_bytes c w ++ drop c s → unpack ys ≡ put_at o (word_bits len x) (unpack s)
unfolding put_at
put-stored-at s ys o c w len x h k i n e y =
    put-stored s ys o c w (word_bits len x) h k i e y ∙ ap (λ (j : ℕ). put_to o (word_bits len x) (8 * j) (unpack s)) (n ∙ ap (λ (j : ℕ). byte_count (o + j)) (sym (words-length len x)))

-- ## Through a part of the buffer

-- putting after whole bytes is putting into what follows them
put-after : (front old new : List Bool) (o e : ℕ) → front ++ put_to o new e old ≡ put_to (length front + o) new (length front + e) (front ++ old)
unfolding put_to
put-after front old new o e =
    let p : length front + e - (length front + o + length new) ≡ e - (o + length new) = omega arith in
    sym (ap₂ (λ (u v : List Bool). u ++ (new ++ v)) (take-append-add front old o)
    (ap₂ (λ (u v : List Bool). u ++ v) (ap (λ (n : ℕ). replicate n false) p) (drop-append-add front old e))
    ∙ simp append_assoc)

pub put-within : (s ys : List ℕ) (at e : ℕ) (new : List Bool) → at / 8 ≤ length s
    → unpack ys ≡ put_to (at % 8) new e (unpack (take (length s - at / 8) (drop (at / 8) s)))
    → unpack (take (at / 8) s ++ (ys ++ drop (length s - at / 8) (drop (at / 8) s))) ≡ put_to at new (8 * (at / 8) + e) (unpack s)
put-within s ys at e new h q =
    let k : ℕ = at / 8 in
    let all : take (length s - k) (drop k s) ≡ drop k s = take_all (length s - k) (drop k s) (omega (arith, length-drop k s)) in
    let none : drop (length s - k) (drop k s) ≡ [] = drop_of_length-le (drop k s) {i = length s - k} (omega (arith, length-drop k s)) in
    let f : length (unpack (take k s)) ≡ 8 * k = unpack-length (take k s) ∙ ap (λ (n : ℕ). 8 * n) (length-take-le k s h) in
    let n : 8 * k + at % 8 ≡ at = omega arith in
    let w : unpack s ≡ unpack (take k s) ++ unpack (drop k s) = ap unpack (sym (take-append-drop k s)) ∙ unpack-append (take k s) (drop k s) in
    unpack-append (take k s) (ys ++ drop (length s - k) (drop k s))
    ∙ ap (λ (l : List Bool). unpack (take k s) ++ l)
    (ap (λ (l : List ℕ). unpack (ys ++ l)) none ∙ ap unpack (append-nil ys) ∙ q ∙ ap (λ (l : List ℕ). put_to (at % 8) new e (unpack l)) all)
    ∙ put-after (unpack (take k s)) (unpack (drop k s)) new (at % 8) e
    ∙ rw (f, n, w)

pub put-part : (s ys : List ℕ) (at : ℕ) (new : List Bool) → at / 8 ≤ length s
    → unpack ys ≡ put_at (at % 8) new (unpack (take (length s - at / 8) (drop (at / 8) s)))
    → unpack (take (at / 8) s ++ (ys ++ drop (length s - at / 8) (drop (at / 8) s))) ≡ put_at at new (unpack s)
unfolding put_at
put-part s ys at new h q =
    let e : 8 * (at / 8) + 8 * byte_count (at % 8 + length new) ≡ 8 * byte_count (at + length new) = omega arith in
    put-within s ys at (8 * byte_count (at % 8 + length new)) new h q ∙ ap (λ (n : ℕ). put_to at new n (unpack s)) e

-- ## One after the other

-- the bits stand at the front, with zeros to the end of their last byte, and from bit e on it is the old buffer
abbrev pub Filled : List Bool → ℕ → List Bool → List Bool → Type 0
Filled new e now old = (take (8 * byte_count (length new)) now ≡ new ++ replicate (padding (length new)) false) × (drop e now ≡ drop e old)

pub filled_none : (e : ℕ) (old : List Bool) → Filled [] e old old
unfolding padding
filled_none e old = (refl, refl)

-- what is written over behind the bits is written again
pub filled_more : (a b : List Bool) (e d : ℕ) (now old : List Bool) → Filled a e now old → 8 * byte_count (length a + length b) ≤ d → d ≤ e
    → Filled (a ++ b) e (put_to (length a) b d now) old
unfolding put_to padding
filled_more a b e d now old f h k =
    let n : ℕ = length a + length b in
    let c : ℕ = 8 * byte_count n in
    let l : length (a ++ b) ≡ n = length-append a b in
    let first : take (length a) now ≡ a =
    sym (take-take (length a) (8 * byte_count (length a)) now (omega arith)) ∙ ap (take (length a)) f.0 ∙ take-append_seam a _ in
    let apart : d - n ≡ c - n + (d - c) = omega arith in
    let zeros : replicate (d - n) false ≡ replicate (c - n) false ++ replicate (d - c) false =
    ap (λ (i : ℕ). replicate i false) apart ∙ sym (replicate-append-replicate (c - n) (d - c) false) in
    let front : List Bool = (a ++ b) ++ replicate (c - n) false in
    let lf : length front ≡ c = omega (arith, length-append (a ++ b) (replicate (c - n) false), length-replicate (c - n) false) in
    let whole : put_to (length a) b d now ≡ front ++ (replicate (d - c) false ++ drop d now) = rw (first, zeros) (simp append_assoc) in
    let le : e ≡ length (front ++ replicate (d - c) false) + (e - d) =
    omega (arith, length-append front (replicate (d - c) false), length-replicate (d - c) false) in
    let m : d + (e - d) ≡ e = omega arith in (
      rw (whole, l) (take_at front _ c lf),
      ap (drop e) (whole ∙ sym (append_assoc front (replicate (d - c) false) (drop d now)))
          ∙ ap (λ (i : ℕ). drop i ((front ++ replicate (d - c) false) ++ drop d now)) le
          ∙ drop-append-add (front ++ replicate (d - c) false) (drop d now) (e - d) ∙ drop-drop (e - d) d now ∙ ap (λ (i : ℕ). drop i now) m ∙ f.1,
    )

pub filled-end : (new now old : List Bool) → Filled new (8 * byte_count (length new)) now old → now ≡ put_at 0 new old
unfolding put_at put_to padding
filled-end new now old f =
    let c : ℕ = 8 * byte_count (length new) in
    sym (take-append-drop c now) ∙ ap₂ (λ (u v : List Bool). u ++ v) f.0 f.1 ∙ rw zero-add (append_assoc new _ (drop c old))

-- ## The bytes of the buffer

-- after the first n bits, which stay: the packing of them and the new ones, and the bytes after it
pub put-packed : (s ys : List ℕ) (n : ℕ) (new : List Bool) → n ≤ 8 * length s → Bytes s → Bytes ys → unpack ys ≡ put_at n new (unpack s)
    → let b : List Bool = take n (unpack s) ++ new in
    ys ≡ pack b ++ drop (length (pack b)) s
unfolding put_at put_to padding
put-packed s ys n new h bs by e =
    let b : List Bool = take n (unpack s) ++ new in
    let l : length b ≡ n + length new = length-append (take n (unpack s)) new ∙ ap (λ (k : ℕ). k + length new) (length-take-le n (unpack s) (omega (arith, unpack-length s))) in
    let t : unpack (pack b ++ drop (length (pack b)) s) ≡ put_at n new (unpack s) =
    unpack-append (pack b) (drop (length (pack b)) s)
    ∙ ap₂ (λ (u v : List Bool). u ++ v) (unpack-pack b) (unpack-drop s (length (pack b)) ∙ ap (λ (k : ℕ). drop (8 * k) (unpack s)) (pack-length b))
    ∙ rw l (simp append_assoc) in
    unpack-apart ys (pack b ++ drop (length (pack b)) s) by (bytes-append (pack b) _ (pack-bytes b) (bytes_drop (length (pack b)) s bs)) (e ∙ sym t)
