-- True headers: what they say, and a number more after one.
use mathlib.Core.Path.{◌≡◌, refl, sym, ap, ◌∙◌}
use mathlib.Core.Bool.{Bool, true, not}
use mathlib.Core.List.{List, [], ◌∷◌, ◌++◌}
use mathlib.Core.Logic.{◌↔◌}
use Prim.Native.Nat.{ℕ, ◌+◌, ◌*◌, ◌≤◌}
use native.Mathlib.Omega.{arith}
use lib.ListN.{length, take, drop, length-append, length-take, length-drop}
use lib.Seq.{take-append_seam, take-take, take_all}
use borrow.Author.Tests.{le-ltb, not-false}
use Rattle.lists.specs.Lists.{sum}
use Rattle.lists.proofs.Each.{all_append}
use Rattle.lists.proofs.Sums.{sum-snoc}
use Rattle.bits.specs.Bits.{byte_count, unpack, pack}
use Rattle.bits.proofs.Bytes.{unpack-length, unpack-take}
use Rattle.codes.specs.Parse.{rest}
use Rattle.fibonacci.specs.Code.{codeword}
use Rattle.fibonacci.specs.Encoding.{row_bits, encoding, parse, numbers}
use Rattle.fibonacci.proofs.Rows.{bits-snoc, numbers-bits, encoding-length, encoding-read, bits-few}
use Rattle.calls.specs.declared.Refusal.TheVariants.{BadOrder}
use Rattle.calls.specs.Limits.{is_order, Order, is_number, Legal, max_number, max_count}
use Rattle.calls.specs.Reading.{decode}
use Rattle.calls.proofs.Checks.{order_is, is-order, positive, check-passed, then-passed, accepted-one}
use Rattle.calls.proofs.Decoding.{Decoded}
use Rattle.calls.proofs.Writing.{Writable}
use Rattle.reading.specs.Reading.{fibonacci}
use Rattle.reading.proofs.Decoding.{decode_is, decoded-rest}
use Rattle.headers.specs.declared.Header.{Header}
use Rattle.headers.specs.Headers.{header_of}
use Rattle.headers.proofs.Headers.{capacity-most, capacity-least, Good}
use Rattle.totals.specs.Totals.{total}
use Rattle.totals.proofs.Totals.{row-most}
use Rattle.header_reader.specs.Reading.{read_header}
use Rattle.encoder.specs.Writing.{write, write_into}
use Rattle.encoder.proofs.Writing.{writing, write-is, write-accepts}
use Rattle.appender.specs.Appending.{extended, append, append_into}
use Rattle.appender.proofs.Appending.{Appendable, append-is, append-accepts}
use Rattle.demands.specs.Headers.{reached, IsTrue, row_of}
use Rattle.demands.proofs.RoundTrip.{decode-encoding, front, write-into}
use Rattle.std.specs.Prelude.{Ok}

-- ## Headers that are read

module _ (m : ℕ) (s : List ℕ) where
  pub read-header : (row : List ℕ) → Order m → decode (fibonacci m) max_number s ≡ Ok row → read_header m s ≡ Ok (header_of m row)
  unfolding read_header
  read-header row o e = rw (is-order m o, e) refl

  module _ (h : Header) (e : read_header m s ≡ Ok h) where
    -- the order is in use, and the header is that of the row that is read
    pub header_is : Order m × (decode (fibonacci m) max_number s ≡ Ok (numbers m (unpack s))) × (h ≡ header_of m (numbers m (unpack s)))
    unfolding read_header
    header_is =
        let p = check-passed BadOrder (not (is_order m)) _ _ e in
        let t = then-passed (decode (fibonacci m) max_number s) _ _ p.1 in
        let is : t.0 ≡ numbers m (unpack s) = (decode_is m max_number s t.0 t.1).is in
        (order_is m (not-false _ p.0), t.1 ∙ ap Ok is, sym (accepted-one t.2) ∙ ap (header_of m) is)

    abbrev row : List ℕ
    row = numbers m (unpack s)

    decoded : Decoded (fibonacci m) max_number s row
    decoded = decode_is m max_number s row header_is.1

    begins : row_bits m row ++ rest (parse m (unpack s)) ≡ unpack s
    begins = numbers-bits m (unpack s) (omega (arith, header_is.0))

    bits_are : h.bits ≡ length (row_bits m row)
    bits_are = ap (λ (g : Header). g.bits) header_is.2

    -- its bits reach all of the bytes
    pub bytes-reached : byte_count h.bits ≡ length s
    bytes-reached =
        omega (
          arith,
          bits_are,
          (decoded-rest m max_number s row decoded).0,
          ap length begins,
          length-append (row_bits m row) (rest (parse m (unpack s))),
          unpack-length s,
        )

-- ## True headers

total-whole : (m : ℕ) (s row : List ℕ) → Order m → decode (fibonacci m) max_number s ≡ Ok row → total m s 0 (length row) ≡ Ok (sum row)
unfolding total
total-whole m s row o e =
    rw (is-order m o, e)
    (simp (le-ltb (length row) 0 (omega arith), le-ltb (length row) (length row) (omega arith)) (ap (λ (l : List ℕ). Ok (sum l)) (take_all (length row) row (omega arith))))

module _ (m : ℕ) (buf : List ℕ) (h : Header) (e : IsTrue m buf h) where
  pub true-order : Order m
  true-order = (header_is m (reached buf h) h e).0

  pub true_row : h ≡ header_of m (row_of m buf h)
  true_row = (header_is m (reached buf h) h e).2

  true-bits : h.bits ≡ length (row_bits m (row_of m buf h))
  true-bits = bits_are m (reached buf h) h e

  true-legal : (length (row_of m buf h) ≤ max_count) × Legal max_number (row_of m buf h)
  true-legal = let d = decoded m (reached buf h) h e in (d.long, d.legal)

  -- the bytes that are reached stand in the buffer
  pub true-within : byte_count h.bits ≤ length buf
  true-within = omega (arith, bytes-reached m (reached buf h) h e, length-take (byte_count h.bits) buf)

  -- its bits are those of the row
  true-begins : take h.bits (unpack buf) ≡ row_bits m (row_of m buf h)
  true-begins =
      let r : List Bool = row_bits m (row_of m buf h) in
      sym (take-take h.bits (8 * byte_count h.bits) (unpack buf) (omega arith))
      ∙ ap (take h.bits) (sym (unpack-take buf (byte_count h.bits)) ∙ sym (begins m (reached buf h) h e))
      ∙ ap (λ (k : ℕ). take k (r ++ rest (parse m (unpack (reached buf h))))) true-bits ∙ take-append_seam r (rest (parse m (unpack (reached buf h))))

  pub true_good : Good (length buf) h
  true_good =
      let few = bits-few m (row_of m buf h) true-order true-legal.1 in
      record {
        bits = capacity-least (length buf) h.bits (omega (arith, true-within)) (omega (arith, true-bits, few, true-legal.0));
        count = omega (arith, ap (λ (g : Header). g.count) true_row, true-legal.0);
        total = omega (arith, ap (λ (g : Header). g.total) true_row, row-most m (reached buf h) (row_of m buf h) (header_is m (reached buf h) h e).1);
      }

  -- a whole row's total is read off it
  pub true_total : total m (reached buf h) 0 h.count ≡ Ok h.total
  true_total =
      ap (λ (g : Header). total m (reached buf h) 0 g.count) true_row ∙ total-whole m (reached buf h) (row_of m buf h) true-order (header_is m (reached buf h) h e).1
      ∙ sym (ap (λ (g : Header). Ok g.total) true_row)

-- ## A number more

-- the header of a row with a number more
pub extended-is : (m : ℕ) (row : List ℕ) (n : ℕ) → extended m (header_of m row) n ≡ header_of m (row ++ (n ∷ []))
extended-is m row n =
    let b : length (row_bits m row) + length (codeword m n) ≡ length (row_bits m (row ++ (n ∷ []))) =
    sym (ap length (bits-snoc m row n) ∙ length-append (row_bits m row) (codeword m n)) in
    let c : length row + 1 ≡ length (row ++ (n ∷ [])) = sym (length-append row (n ∷ [])) in
    let t : sum row + n ≡ sum (row ++ (n ∷ [])) = sym (sum-snoc row n) in
    cc

pub legal-begin : (row ns : List ℕ) → Legal max_number (row ++ ns) → Legal max_number row
legal-begin [] ns a = tt
legal-begin (n ∷ row) ns a = (a.0, legal-begin row ns a.1)

legal-last : (row : List ℕ) (n : ℕ) → Legal max_number (row ++ (n ∷ [])) → is_number max_number n ≡ true
legal-last [] n a = a.0
legal-last (k ∷ row) n a = legal-last row n a.1

-- after a true header
module _ (m : ℕ) (before : List ℕ) (h : Header) (n : ℕ) (e : IsTrue m before h) where
  abbrev pub longer : List ℕ
  longer = row_of m before h ++ (n ∷ [])

  extended-true : extended m h n ≡ header_of m longer
  extended-true = ap (λ (g : Header). extended m g n) (true_row m before h e) ∙ extended-is m (row_of m before h) n

  longer-bits : (extended m h n).bits ≡ length (row_bits m longer)
  longer-bits = ap (λ (g : Header). g.bits) extended-true

  longer-count : length longer ≡ h.count + 1
  longer-count = sym (ap (λ (g : Header). g.count) extended-true)

  same_answer : ◌≡◌ {A = ℕ × Header} (byte_count (extended m h n).bits, extended m h n) (length (encoding m longer), header_of m longer)
  same_answer =
      let b : byte_count (extended m h n).bits ≡ length (encoding m longer) = ap byte_count longer-bits ∙ sym (encoding-length m longer) in
      let g = extended-true in
      cc

  -- both accept alike
  writable : Appendable m (length before) h n → Writable (writing m longer) (length before)
  writable a =
      record {
        asked = a.asked;
        count = omega (arith, longer-count, a.count);
        legal = all_append (λ k. is_number max_number k ≡ true) (row_of m before h) (n ∷ []) (true-legal m before h e).1 (a.legal, tt);
        fits = omega (arith, a.fits, capacity-most (length before), encoding-length m longer, longer-bits);
      }

  pub appendable : Writable (writing m longer) (length before) → Appendable m (length before) h n
  appendable w =
      record {
        asked = w.asked;
        good = true_good m before h e;
        legal = legal-last (row_of m before h) n w.legal;
        count = omega (arith, longer-count, w.count);
        fits =
            capacity-least (length before) (extended m h n).bits (omega (arith, w.fits, encoding-length m longer, longer-bits))
            (omega (arith, longer-bits, bits-few m longer (true-order m before h e) w.legal, w.count));
      }

  pub appended_longer : (x : ℕ × Header) → (append m (length before) h n ≡ Ok x) ↔ (write m longer (length before) ≡ Ok x)
  appended_longer x = (
    λ a.
        let i = append-is m (length before) h n x a in
        write-accepts m longer (length before) (writable i.0) ∙ ap Ok (sym same_answer ∙ sym i.1),
    λ w.
        let i = write-is m longer (length before) x.0 x.1 w in
        append-accepts m (length before) h n (appendable i.0) ∙ ap Ok same_answer ∙ (sym (write-accepts m longer (length before) i.0) ∙ w),
  )

  pub appended_into : (x : ℕ × Header) → append m (length before) h n ≡ Ok x → append_into m before h n ≡ write_into m longer before
  unfolding append_into encoding
  appended_into x a =
      let w = writable (append-is m (length before) h n x a).0 in
      let bits : take h.bits (unpack before) ++ codeword m n ≡ row_bits m longer =
      ap (λ (b : List Bool). b ++ codeword m n) (true-begins m before h e) ∙ sym (bits-snoc m (row_of m before h) n) in
      rw a (ap (λ (b : List Bool). pack b ++ drop (length (pack b)) before) bits) ∙ sym (write-into m longer before w)

-- ## Writing

module _ (m : ℕ) (row before : List ℕ) (w : Writable (writing m row) (length before)) where
  reached-front : reached (front m row before) (header_of m row) ≡ encoding m row
  reached-front =
      ap (λ (k : ℕ). take k (front m row before)) (sym (encoding-length m row)) ∙ take-append_seam (encoding m row) (drop (length (encoding m row)) before)

  pub true-front : IsTrue m (front m row before) (header_of m row)
  true-front =
      let o = order_is m w.asked in
      read-header m (reached (front m row before) (header_of m row)) row o
      (ap (decode (fibonacci m) max_number) reached-front ∙ decode-encoding m row o w.count w.legal)

  pub row-front : row_of m (front m row before) (header_of m row) ≡ row
  row-front =
      ap (λ (s : List ℕ). numbers m (unpack s)) reached-front ∙ encoding-read m row (omega (arith, order_is m w.asked)) (positive max_number row w.legal)

  pub front_length : length (front m row before) ≡ length before
  front_length =
      omega (arith, length-append (encoding m row) (drop (length (encoding m row)) before), length-drop (length (encoding m row)) before, w.fits)

pub written_true : (m : ℕ) (row before : List ℕ) (bytes : ℕ) (h : Header) → write m row (length before) ≡ Ok (bytes, h) → IsTrue m (write_into m row before) h
written_true m row before bytes h e =
    let i = write-is m row (length before) bytes h e in
    rw (i.2, write-into m row before i.0) (true-front m row before i.0)
