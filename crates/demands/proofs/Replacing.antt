-- Replacing a number: what holds of the buffer afterwards, of replacing again, and of seeing it before.
use mathlib.Core.Path.{◌≡◌, refl, sym, ap, ap₂, ◌∙◌}
use mathlib.Core.Bool.{Bool, true, false}
use mathlib.Core.List.{List, ◌∷◌, ◌++◌, append_assoc, flatten}
use Prim.Native.Nat.{ℕ, suc, ◌+◌, ◌-◌, ◌/◌, ◌≤◌, ◌<◌, max}
use native.Mathlib.Omega.{arith}
use native.Mathlib.Decide.{dec_le}
use lib.ListN.{length, get_or, take, drop, set, replicate, length-append, length-drop, length-replicate, length-set, take-append-drop, replicate-append-replicate}
use lib.Seq.{length-take-le, take-append_seam, drop-append_seam, drop-append-add, drop-drop, set_split, split_at, set-set, set-get_or}
use Rattle.lists.proofs.Each.{all_set}
use Rattle.bits.specs.Bits.{Bytes, bit_of, word_bits, unpack, word_of, bytes_of, pack, padding, count}
use Rattle.bits.proofs.Bytes.{unpack-append}
use Rattle.bits.proofs.Packing.{bytes_take, unpack-pack}
use Rattle.codes.specs.Parse.{rest}
use Rattle.fibonacci.specs.Code.{past, F, value, first, number, size, digits, codeword}
use Rattle.fibonacci.specs.Encoding.{row_bits, encoding, parse_after, parse, numbers}
use Rattle.fibonacci.proofs.Rows.{bits-append, encoding-length}
use Rattle.calls.specs.Limits.{is_order, Order, is_number, Legal, is_outside, max_number, max_count}
use Rattle.calls.specs.Reading.{check_finished, contents, decode}
use Rattle.calls.proofs.Checks.{is-order, legal-at, accepted-one}
use Rattle.calls.proofs.Decoding.{Decoded}
use Rattle.reading.specs.Reading.{fibonacci, read, read_into}
use Rattle.reading.proofs.Decoding.{decode_is, decoded-bits, read-row}
use Rattle.headers.specs.declared.Header.{Header}
use Rattle.headers.specs.Headers.{header_of}
use Rattle.header_reader.specs.Reading.{read_header}
use Rattle.replacer.specs.Replacing.{change, replace, filled, replace_into}
use Rattle.replacer.proofs.Replacing.{Changeable, change-accepts, replace-read, replace-is, into}
use Rattle.demands.specs.Headers.{IsTrue}
use Rattle.demands.specs.Replacing.{row_in, Replaced, ReplaceDemand, ReplaceExamples, PreviewDemand, PreviewExamples}
use Rattle.demands.proofs.RoundTrip.{decode-encoding, decoded-encoding}
use Rattle.demands.proofs.Truth.{read-header, header_is, bytes-reached}
use Rattle.demands.proofs.Headers.{read_true}
use Rattle.std.specs.Prelude.{Ok}

-- ## Bytes over others

-- x from the front of a buffer, zeros up to byte u where it is shorter, and what stood after both
abbrev over : List ℕ → ℕ → List ℕ → List ℕ
over x u buf = x ++ (replicate (u - length x) 0 ++ drop (max (length x) u) buf)

drop-zeros : (k z : ℕ) (b : List ℕ) → drop k (replicate z 0 ++ b) ≡ replicate (z - k) 0 ++ drop (k - z) b
drop-zeros k z b =
    elim (dec_le k z) [
      | yes l ↦
          let e : k + (z - k) ≡ z = omega arith in
          let none : k - z ≡ 0 = omega arith in
          ap (λ (n : ℕ). drop k (replicate n 0 ++ b)) (sym e) ∙ ap (λ (l : List ℕ). drop k (l ++ b)) (sym (replicate-append-replicate k (z - k) 0))
          ∙ ap (drop k) (append_assoc (replicate k 0) (replicate (z - k) 0) b) ∙ drop-same k (replicate (z - k) 0 ++ b)
          ∙ ap (λ (n : ℕ). replicate (z - k) 0 ++ drop n b) (sym none)
      | no l ↦
          let e : z + (k - z) ≡ k = omega arith in
          let none : z - k ≡ 0 = omega arith in
          ap (λ (n : ℕ). drop n (replicate z 0 ++ b)) (sym e) ∙ sym (drop-drop (k - z) z (replicate z 0 ++ b)) ∙ ap (drop (k - z)) (drop-same z b)
          ∙ ap (λ (n : ℕ). replicate n 0 ++ drop (k - z) b) (sym none)
    ]
  where
    drop-same : (n : ℕ) (c : List ℕ) → drop n (replicate n 0 ++ c) ≡ c
    drop-same n c =
        ap (λ (j : ℕ). drop j (replicate n 0 ++ c)) (sym (length-replicate {A = ℕ} n 0)) ∙ drop-append_seam (replicate n 0) c

zeros-left : (e l u : ℕ) → l ≤ max u e → l - e + (u - l - (e - l)) ≡ u - e
zeros-left e l u h = omega arith

bytes_left : (e l u : ℕ) → l ≤ max u e → max l u + (e - l - (u - l)) ≡ max e u
bytes_left e l u h = omega arith

-- over bytes that reach no further than the old end or the new one
over-over : (x y : List ℕ) (u : ℕ) (buf : List ℕ) → length x ≤ max u (length y) → over y (length x) (over x u buf) ≡ over y u buf
over-over x y u buf h =
    let e : ℕ = length y in
    let l : ℕ = length x in
    let past : l + (e - l) ≡ max e l = omega arith in
    let tail : drop (max e l) (over x u buf) ≡ replicate (u - l - (e - l)) 0 ++ drop (max l u + (e - l - (u - l))) buf =
    ap (λ (n : ℕ). drop n (over x u buf)) (sym past) ∙ drop-append-add x (replicate (u - l) 0 ++ drop (max l u) buf) (e - l)
    ∙ drop-zeros (e - l) (u - l) (drop (max l u) buf) ∙ ap (λ (t : List ℕ). replicate (u - l - (e - l)) 0 ++ t) (drop-drop (e - l - (u - l)) (max l u) buf) in
    ap (λ (t : List ℕ). y ++ t)
    (ap (λ (t : List ℕ). replicate (l - e) 0 ++ t) tail
    ∙ sym (append_assoc (replicate (l - e) 0) (replicate (u - l - (e - l)) 0) (drop (max l u + (e - l - (u - l))) buf))
    ∙ ap₂ (λ (t : List ℕ) (n : ℕ). t ++ drop n buf)
    (replicate-append-replicate (l - e) (u - l - (e - l)) 0 ∙ ap (λ (n : ℕ). replicate n 0) (zeros-left e l u h)) (bytes_left e l u h))

over-length : (x : List ℕ) (u : ℕ) (buf : List ℕ) → length x ≤ length buf → u ≤ length buf → length (over x u buf) ≡ length buf
over-length x u buf h l =
    omega (
      arith,
      length-append x (replicate (u - length x) 0 ++ drop (max (length x) u) buf),
      length-append (replicate (u - length x) 0) (drop (max (length x) u) buf),
      length-replicate {A = ℕ} (u - length x) 0,
      length-drop (max (length x) u) buf,
    )

-- ## After an accepted replacement

module _ (m : ℕ) (before : List ℕ) (used p n bytes : ℕ) (h : Header) (e : replace m before used p n ≡ Ok (bytes, h)) where
  abbrev row : List ℕ
  row = row_in m before used

  abbrev new : List ℕ
  new = set row p n

  abbrev after : List ℕ
  after = replace_into m before used p n

  order : Order m
  order = (replace-is m before used p n (bytes, h) e).0

  within : used ≤ length before
  within = (replace-is m before used p n (bytes, h) e).1

  was_read : decode (fibonacci m) max_number (take used before) ≡ Ok row
  was_read = (replace-is m before used p n (bytes, h) e).2

  can : Changeable m (length before) row p n
  can = (replace-is m before used p n (bytes, h) e).3

  bytes-new : bytes ≡ length (encoding m new)
  bytes-new = ap (λ (x : ℕ × Header). x.0) (replace-is m before used p n (bytes, h) e).4

  header-new : h ≡ header_of m new
  header-new = ap (λ (x : ℕ × Header). x.1) (replace-is m before used p n (bytes, h) e).4

  old : Decoded (fibonacci m) max_number (take used before) row
  old = decode_is m max_number (take used before) row was_read

  new-legal : Legal max_number new
  new-legal = all_set (λ k. is_number max_number k ≡ true) row p n old.legal can.legal

  new-long : length new ≤ max_count
  new-long = omega (arith, length-set row p n, old.long)

  after_is : after ≡ over (encoding m new) used before
  after_is =
      let x : List ℕ = encoding m new in
      let k : length (filled m new used) ≡ max (length x) used = omega (arith, length-append x (replicate (used - length x) 0), length-replicate {A = ℕ} (used - length x) 0) in
      into m before used p n (bytes, h) e ∙ ap (λ (j : ℕ). filled m new used ++ drop j before) k
      ∙ append_assoc x (replicate (used - length x) 0) (drop (max (length x) used) before)

  after-length : length after ≡ length before
  after-length = ap length after_is ∙ over-length (encoding m new) used before can.fits within

  pub in_use : take bytes after ≡ encoding m new
  in_use = ap₂ take bytes-new after_is ∙ take-append_seam (encoding m new) _

  read-after : decode (fibonacci m) max_number (take bytes after) ≡ Ok new
  read-after = ap (decode (fibonacci m) max_number) in_use ∙ decode-encoding m new order new-long new-legal

  header_true : IsTrue m after h
  header_true =
      rw (after_is, header-new)
      (read_true m (encoding m new) _ (header_of m new) (read-header m (encoding m new) new order (decode-encoding m new order new-long new-legal)))

  reads : (out : List ℕ) → h.count ≤ length out
      → (read m (take bytes after) (length out) ≡ Ok (length new)) × (read_into m (take bytes after) out ≡ new ++ drop (length new) out)
  reads out l = read-row m (take bytes after) out order new read-after (omega (arith, ap (λ (g : Header). g.count) header-new))

  -- ## Bits before the place

  abbrev kept : List Bool
  kept = row_bits m (take p row)

  kept-after : (t : List Bool) → unpack after ≡ row_bits m new ++ t → take (length kept) (unpack after) ≡ kept
  unfolding row_bits flatten
  kept-after t u =
      ap (take (length kept)) (u ∙ ap (λ (b : List Bool). b ++ t) (ap (row_bits m) (set_split row p n can.within) ∙ bits-append m (take p row) (n ∷ drop (suc p) row))
      ∙ append_assoc kept _ t)
      ∙ take-append_seam kept _

  kept-before : (t : List Bool) → unpack before ≡ row_bits m row ++ t → take (length kept) (unpack before) ≡ kept
  unfolding row_bits flatten
  kept-before t u =
      ap (take (length kept)) (u ∙ ap (λ (b : List Bool). b ++ t) (ap (row_bits m) (split_at row p 0 can.within) ∙ bits-append m (take p row) (get_or row p 0 ∷ drop (suc p) row))
      ∙ append_assoc kept _ t)
      ∙ take-append_seam kept _

  keeps_bits : take (length kept) (unpack after) ≡ take (length kept) (unpack before)
  unfolding encoding
  keeps_bits =
      let rest-after : List ℕ = replicate (used - length (encoding m new)) 0 ++ drop (max (length (encoding m new)) used) before in
      let u : unpack after ≡ row_bits m new ++ (replicate (padding (length (row_bits m new))) false ++ unpack rest-after) =
      ap unpack after_is ∙ unpack-append (encoding m new) rest-after ∙ ap (λ (b : List Bool). b ++ unpack rest-after) (unpack-pack (row_bits m new))
      ∙ append_assoc (row_bits m new) (replicate (padding (length (row_bits m new))) false) (unpack rest-after) in
      let z : ℕ = length (rest (parse m (unpack (take used before)))) in
      let v : unpack before ≡ row_bits m row ++ (replicate z false ++ unpack (drop used before)) =
      ap unpack (sym (take-append-drop used before)) ∙ unpack-append (take used before) (drop used before)
      ∙ ap (λ (b : List Bool). b ++ unpack (drop used before)) (decoded-bits m max_number (take used before) row (omega (arith, order)) old)
      ∙ append_assoc (row_bits m row) (replicate z false) (unpack (drop used before)) in
      kept-after _ u ∙ sym (kept-before _ v)

-- ## Replacing again

module _ (m : ℕ) (before : List ℕ) (used p n bytes : ℕ) (h : Header) (e : replace m before used p n ≡ Ok (bytes, h)) where
  again : (k : ℕ) → replace m (replace_into m before used p n) bytes p k ≡ replace m before used p k
  unfolding change
  again k =
      let row : List ℕ = row_in m before used in
      let after : List ℕ = replace_into m before used p n in
      let o = is-order m (order m before used p n bytes h e) in
      let same = after-length m before used p n bytes h e in
      let long : bytes ≤ length after = omega (arith, bytes-new m before used p n bytes h e, (can m before used p n bytes h e).fits) in
      let two : set (set row p n) p k ≡ set row p k = set-set row p n k in
      let count = length-set row p n in
      replace-read m after bytes p k o long (set row p n) (read-after m before used p n bytes h e) ∙ rw (same, two, count) refl
      ∙ sym (replace-read m before used p k o (within m before used p n bytes h e) row (was_read m before used p n bytes h e))

  module _ (k b : ℕ) (g : Header) (f : replace m before used p k ≡ Ok (b, g)) where
    abbrev last : List ℕ
    last = encoding m (set (row_in m before used) p k)

    twice : replace m (replace_into m before used p n) bytes p k ≡ Ok (b, g)
    twice = again k ∙ f

    -- the row that the second replacement changes
    last-is : encoding m (set (row_in m (replace_into m before used p n) bytes) p k) ≡ last
    last-is =
        let row : List ℕ = row_in m before used in
        ap (λ (r : List ℕ). encoding m (set r p k)) (sym (decode_is m max_number _ (set row p n) (read-after m before used p n bytes h e)).is)
        ∙ ap (encoding m) (set-set row p n k)

    pub again_in_use : take b (replace_into m (replace_into m before used p n) bytes p k) ≡ take b (replace_into m before used p k)
    again_in_use = in_use m (replace_into m before used p n) bytes p k b g twice ∙ last-is ∙ sym (in_use m before used p k b g f)

    pub again_into : bytes ≤ max used b → replace_into m (replace_into m before used p n) bytes p k ≡ replace_into m before used p k
    again_into l =
        let x : List ℕ = encoding m (set (row_in m before used) p n) in
        let lx : bytes ≡ length x = bytes-new m before used p n bytes h e in
        after_is m (replace_into m before used p n) bytes p k b g twice ∙ ap (λ (y : List ℕ). over y bytes (replace_into m before used p n)) last-is
        ∙ ap₂ (λ (j : ℕ) (z : List ℕ). over last j z) lx (after_is m before used p n bytes h e)
        ∙ over-over x last used before (omega (arith, l, lx, bytes-new m before used p k b g f)) ∙ sym (after_is m before used p k b g f)

pub replaced : (m : ℕ) (before : List ℕ) (used p n bytes : ℕ) (h : Header) → replace m before used p n ≡ Ok (bytes, h) → Replaced m before used p n bytes h
replaced m before used p n bytes h e =
    record {
      header_true = header_true m before used p n bytes h e;
      reads = reads m before used p n bytes h e;
      keeps_bits = keeps_bits m before used p n bytes h e;
      again = again m before used p n bytes h e;
      again_in_use = again_in_use m before used p n bytes h e;
      again_into = again_into m before used p n bytes h e;
    }

-- ## The same number

module _ (m : ℕ) (before : List ℕ) (used p : ℕ) (h : Header) (l : used ≤ length before) (e : read_header m (take used before) ≡ Ok h) (i : p < h.count) where
  abbrev held : List ℕ
  held = row_in m before used

  same_row : set held p (get_or held p 0) ≡ held
  same_row = set-get_or held p 0

  held-is : Order m × (decode (fibonacci m) max_number (take used before) ≡ Ok held) × (h ≡ header_of m held)
  held-is = header_is m (take used before) h e

  same_bytes : length (encoding m held) ≡ used
  same_bytes =
      encoding-length m held ∙ ap (λ (g : Header). (g.bits + 7) / 8) (sym held-is.2) ∙ bytes-reached m (take used before) h e ∙ length-take-le used before l

  same_number : replace m before used p (get_or held p 0) ≡ Ok (used, h)
  same_number =
      let d = decode_is m max_number (take used before) held held-is.1 in
      let inside : p < length held = omega (arith, ap (λ (g : Header). g.count) held-is.2) in
      let fits : length (encoding m (set held p (get_or held p 0))) ≤ length before = omega (arith, ap (λ (r : List ℕ). length (encoding m r)) same_row, same_bytes) in
      replace-read m before used p (get_or held p 0) (is-order m held-is.0) l held held-is.1
      ∙ change-accepts m (length before) held p (get_or held p 0) (record { within = inside; legal = legal-at max_number held p d.legal inside; fits = fits })
      ∙ ap (λ (r : List ℕ). Ok (length (encoding m r), header_of m r)) same_row
      ∙ ap₂ (λ (k : ℕ) (g : Header). Ok (k, g)) same_bytes (sym held-is.2)

  same_buffer : Bytes before → replace_into m before used p (get_or held p 0) ≡ before
  same_buffer b =
      let x : List ℕ = encoding m held in
      let is : take used before ≡ x = decoded-encoding m (take used before) held held-is.0 (bytes_take used before b) held-is.1 in
      let none : used - length x ≡ 0 = omega (arith, same_bytes) in
      let end : max (length x) used ≡ used = omega (arith, same_bytes) in
      after_is m before used p (get_or held p 0) used h same_number ∙ ap (λ (r : List ℕ). over (encoding m r) used before) same_row
      ∙ ap₂ (λ (k j : ℕ). x ++ (replicate k 0 ++ drop j before)) none end ∙ ap (λ (y : List ℕ). y ++ drop used before) (sym is) ∙ take-append-drop used before

-- ## All of it

pub replace-demand : (m : ℕ) → ReplaceDemand m
replace-demand m = record { replaced = replaced m; same_number = same_number m; same_buffer = same_buffer m }

pub preview-demand : (m : ℕ) → PreviewDemand m
preview-demand m = record { same_answer = λ buf used p n. refl; header_true = header_true m; kept = again m }

pub replace_examples : ReplaceExamples
unfolding flatten bit_of word_bits unpack word_of bytes_of pack count past F value first number size digits codeword row_bits encoding parse_after parse numbers is_order is_number is_outside check_finished contents decode change replace replace_into
replace_examples =
    record {
      shorter = refl;
      shorter_into = refl;
      inside = refl;
      inside_into = refl;
      past_the_row = refl;
      longer_into = refl;
      too_long = refl;
      again_further = refl;
      at_first = refl;
    }

pub preview_examples : PreviewExamples
unfolding flatten bit_of word_bits unpack word_of bytes_of pack count past F value first number size digits codeword row_bits encoding parse_after parse numbers is_order is_number is_outside check_finished contents decode read_header change replace
preview_examples =
    record {
      longer = refl;
      true_after = refl;
      not_before = λ e. let bits : ◌≡◌ {A = ℕ} 2 6 = ap (λ (h : Header). h.bits) (accepted-one e) in omega arith;
      too_long = refl;
      long_enough = refl;
    }
