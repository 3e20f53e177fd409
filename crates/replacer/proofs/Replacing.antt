-- What replacing answers and leaves behind.
use mathlib.Core.Path.{◌≡◌, refl, sym, ap, ap₂, ◌∙◌}
use mathlib.Core.Bool.{Bool, true, false, not}
use mathlib.Core.List.{List, ◌++◌, append_assoc}
use Prim.Native.Nat.{ℕ, ◌+◌, ◌-◌, ◌*◌, ◌≤◌, ◌<◌, max}
use native.Mathlib.Omega.{arith}
use lib.Dec.{leb, ltb}
use lib.ListN.{length, get_or, take, drop, set, replicate, length-append, length-replicate, length-set}
use lib.Seq.{length-take-le}
use borrow.Author.Tests.{le-leb, lt-leb, leb-false, lt-ltb, le-ltb, ltb-false, not-false}
use Rattle.lists.proofs.Each.{all_set}
use Rattle.bits.specs.Bits.{Bytes, unpack, byte_count}
use Rattle.bits.specs.Leaves.{fit}
use Rattle.bits.proofs.Bytes.{unpack-length}
use Rattle.codes.specs.Parse.{rest}
use Rattle.fibonacci.specs.Code.{codeword}
use Rattle.fibonacci.specs.Encoding.{row_bits, encoding, parse, numbers}
use Rattle.fibonacci.proofs.Lookup.{codeword-bits}
use Rattle.fibonacci.proofs.Rows.{encoding-length, bits-few}
use Rattle.calls.specs.declared.Refusal.{Refusal}
use Rattle.calls.specs.declared.Refusal.TheVariants.{BadOrder, PastBuffer, BadPlace, BadNumber, NoRoom}
use Rattle.calls.specs.Limits.{is_order, Order, is_number, is_outside, max_number, max_bytes}
use Rattle.calls.specs.Reading.{decode}
use Rattle.calls.proofs.Checks.{order_is, number-inside, inside-number, number-outside, check-passed, then-passed, accepted-one}
use Rattle.reading.specs.Reading.{fibonacci}
use Rattle.reading.proofs.Decoding.{decode_is, decoded-bits}
use Rattle.headers.specs.declared.Header.{Header}
use Rattle.headers.specs.Headers.{header_of, max_bits}
use Rattle.bit_moves.specs.Splices.{splice}
use Rattle.bit_moves.proofs.Splices.{splice-packed}
use Rattle.replacer.specs.declared.Replacement.{Replacement}
use Rattle.replacer.specs.Leaves.{Puts}
use Rattle.replacer.specs.Replacing.{change, replace, filled, replace_into}
use Rattle.replacer.proofs.Rows.{start, was, start-within, splice-row}
use Rattle.std.specs.Prelude.{Ok, Err}

-- ## A number for another of a row

module _ (m room : ℕ) (row : List ℕ) (p n : ℕ) where
  -- it accepts the number
  pub record Changeable : Type 0 where
    pub within : p < length row
    pub legal : is_number max_number n ≡ true
    pub fits : length (encoding m (set row p n)) ≤ room

  abbrev pub changed : ℕ × Header
  changed = (length (encoding m (set row p n)), header_of m (set row p n))

  pub change-is : (x : ℕ × Header) → change m room row p n ≡ Ok x → Changeable × (x ≡ changed)
  unfolding change
  change-is x e =
      let p8 = check-passed BadPlace (leb (length row) p) _ _ e in
      let p3 = check-passed (BadNumber 0) (is_outside max_number n) _ _ p8.1 in
      let p5 = check-passed NoRoom (ltb room (length (encoding m (set row p n)))) _ _ p3.1 in (
        record { within = leb-false (length row) p p8.0; legal = inside-number max_number n p3.0; fits = ltb-false _ _ p5.0 },
        sym (accepted-one p5.1),
      )

  pub change-accepts : Changeable → change m room row p n ≡ Ok changed
  unfolding change
  change-accepts c = rw (lt-leb (length row) p c.within, number-inside max_number n c.legal, le-ltb room _ c.fits) refl

  -- with the header of the changed row at hand
  pub change-header : (h : Header) → h ≡ header_of m (set row p n) → Changeable → change m room row p n ≡ Ok (byte_count h.bits, h)
  change-header h e c =
      let b : length (encoding m (set row p n)) ≡ byte_count h.bits = encoding-length m (set row p n) ∙ ap (λ (g : Header). byte_count g.bits) (sym e) in
      change-accepts c ∙ ap₂ (λ (k : ℕ) (g : Header). Ok (k, g)) b (sym e)

  pub change-place : length row ≤ p → change m room row p n ≡ Err BadPlace
  unfolding change
  change-place h = rw (le-leb (length row) p h) refl

  module _ (h : p < length row) where
    pub change-number : is_number max_number n ≡ false → change m room row p n ≡ Err (BadNumber 0)
    unfolding change
    change-number f = rw (lt-leb (length row) p h, number-outside max_number n f) refl

    pub change-room : is_number max_number n ≡ true → room < length (encoding m (set row p n)) → change m room row p n ≡ Err NoRoom
    unfolding change
    change-room legal l = rw (lt-leb (length row) p h, number-inside max_number n legal, lt-ltb room _ l) refl

-- ## In a buffer

module _ (m : ℕ) (before : List ℕ) (used p n : ℕ) where
  pub replace-order : is_order m ≡ false → replace m before used p n ≡ Err BadOrder
  unfolding replace
  replace-order o = rw o refl

  module _ (o : is_order m ≡ true) where
    pub replace-past : length before < used → replace m before used p n ≡ Err PastBuffer
    unfolding replace
    replace-past h = rw (o, lt-ltb (length before) used h) refl

    module _ (i : used ≤ length before) where
      pub replace-unread : (r : Refusal) → decode (fibonacci m) max_number (take used before) ≡ Err r → replace m before used p n ≡ Err r
      unfolding replace
      replace-unread r e = rw (o, le-ltb (length before) used i, e) refl

      pub replace-read : (row : List ℕ) → decode (fibonacci m) max_number (take used before) ≡ Ok row → replace m before used p n ≡ change m (length before) row p n
      unfolding replace
      replace-read row e = rw (o, le-ltb (length before) used i, e) refl

  -- an accepted one
  module _ (x : ℕ × Header) (e : replace m before used p n ≡ Ok x) where
    abbrev pub row : List ℕ
    row = numbers m (unpack (take used before))

    pub replace-is : Order m × (used ≤ length before) × (decode (fibonacci m) max_number (take used before) ≡ Ok row) × Changeable m (length before) row p n
        × (x ≡ changed m (length before) row p n)
    unfolding replace
    replace-is =
        let p1 = check-passed BadOrder (not (is_order m)) _ _ e in
        let p2 = check-passed PastBuffer (ltb (length before) used) _ _ p1.1 in
        let t = then-passed (decode (fibonacci m) max_number (take used before)) _ _ p2.1 in
        let is : t.0 ≡ row = (decode_is m max_number (take used before) t.0 t.1).is in
        let c = change-is m (length before) row p n x (rw is at t.2) in
        (order_is m (not-false _ p1.0), ltb-false (length before) used p2.0, t.1 ∙ ap Ok is, c.0, c.1)

-- ## What it leaves behind

module _ (m : ℕ) (before : List ℕ) (used p n : ℕ) where
  pub replace-refused : (r : Refusal) → replace m before used p n ≡ Err r → before ≡ replace_into m before used p n
  unfolding replace_into
  replace-refused r e = rw e refl

-- the bits of a row that was read are followed by zeros
module _ (m : ℕ) (s row : List ℕ) (o : Order m) (e : decode (fibonacci m) max_number s ≡ Ok row) where
  pub read-zeros : unpack s ≡ row_bits m row ++ replicate (length (rest (parse m (unpack s)))) false
  read-zeros = decoded-bits m max_number s row (omega (arith, o)) (decode_is m max_number s row e)

  pub read-bits : length (row_bits m row) ≤ 8 * length s
  read-bits =
      omega (
        arith,
        ap length read-zeros,
        length-append (row_bits m row) (replicate (length (rest (parse m (unpack s)))) false),
        unpack-length s,
      )

module _ (m : ℕ) (before : List ℕ) (used p n : ℕ) (x : ℕ × Header) (e : replace m before used p n ≡ Ok x) where
  abbrev old_row : List ℕ
  old_row = numbers m (unpack (take used before))

  abbrev new : List ℕ
  new = encoding m (set old_row p n)

  pub into : replace_into m before used p n ≡ filled m (set old_row p n) used ++ drop (length (filled m (set old_row p n) used)) before
  unfolding replace_into
  into = rw e refl

  -- the codeword is put, and the bits behind it have moved
  pub replace-put : (after : List ℕ) → Bytes before → Bytes after → (end at old : ℕ) (word : List Bool) → end ≡ max used (byte_count x.1.bits)
      → at ≡ length (row_bits m (take p old_row)) → old ≡ length (codeword m (get_or old_row p 0)) → word ≡ codeword m n
      → unpack after ≡ fit (8 * end) (splice at old word (unpack (take used before))) ++ unpack (drop end before) → after ≡ replace_into m before used p n
  unfolding encoding
  replace-put after bb ba end at old word ee ea eo ew u =
      let i = replace-is m before used p n x e in
      let h = i.3.within in
      let count : length new ≡ byte_count (length (row_bits m (set old_row p n))) = encoding-length m (set old_row p n) in
      let bits : x.1.bits ≡ length (row_bits m (set old_row p n)) = ap (λ (y : ℕ × Header). y.1.bits) i.4 in
      let spliced = splice-row m old_row p n h in
      let same : after ≡ new ++ (replicate (end - length new) 0 ++ drop end before) =
      rw spliced at (splice-packed before after used end (start m old_row p n h) (length (codeword m (was m old_row p n h))) (length (rest (parse m (unpack (take used before))))) (codeword m n) (row_bits m old_row)
      (start-within m old_row p n h) (read-zeros m (take used before) old_row i.0 i.2) (rw spliced (omega arith)) bb ba (rw (ea, eo, ew) at u)) in
      let z : end - length new ≡ used - length new = omega arith in
      let k : length (filled m (set old_row p n) used) ≡ end =
      omega (arith, length-append new (replicate (used - length new) 0), length-replicate {A = ℕ} (used - length new) 0) in
      same ∙ ap₂ (λ (i j : ℕ). new ++ (replicate i 0 ++ drop j before)) z (sym k)
      ∙ sym (append_assoc new (replicate (used - length new) 0) (drop (length (filled m (set old_row p n) used)) before)) ∙ sym into

-- what is planned is in use, and the buffer has room for what comes of it
pub record Room (m : ℕ) (before : List ℕ) (used : ℕ) (x : Replacement) : Type 0 where
  pub used_fits : used ≤ length before
  pub used_most : used ≤ max_bytes
  pub some : 1 ≤ x.old
  pub in_use : x.start + x.old ≤ 8 * used
  pub fits : byte_count x.header.bits ≤ length before
  pub most : x.header.bits ≤ max_bits

pub planned-room : (m : ℕ) (before : List ℕ) (used p n : ℕ) (x : Replacement) → replace m before used p n ≡ Ok (byte_count x.header.bits, x.header)
    → Puts m (numbers m (unpack (take used before))) p n x → Room m before used x
planned-room m before used p n x e t =
    let i = replace-is m before used p n (byte_count x.header.bits, x.header) e in
    let old : List ℕ = numbers m (unpack (take used before)) in
    let d = decode_is m max_number (take used before) old i.2 in
    let lu : length (take used before) ≡ used = length-take-le used before i.1 in
    let bytes : byte_count x.header.bits ≡ length (encoding m (set old p n)) = ap (λ (y : ℕ × Header). y.0) i.4 in
    let bits : x.header.bits ≡ length (row_bits m (set old p n)) = ap (λ (y : ℕ × Header). y.1.bits) i.4 in
    let few = bits-few m (set old p n) i.0 (all_set (λ k. is_number max_number k ≡ true) old p n d.legal i.3.legal) in
    record {
      used_fits = i.1;
      used_most = omega (arith, lu, d.bytes);
      some = omega (arith, t.old, codeword-bits m (get_or old p 0), i.0);
      in_use = omega (arith, t.start, t.old, start-within m old p n t.within, read-bits m (take used before) old i.0 i.2, lu);
      fits = omega (arith, bytes, i.3.fits);
      most = omega (arith, bits, few, length-set old p n, d.long);
    }
