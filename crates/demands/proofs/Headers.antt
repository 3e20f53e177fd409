-- Headers: number after number appended by true ones, and all that is promised of them.
use mathlib.Core.Path.{◌≡◌, refl, sym, ap, ap₂, ◌∙◌}
use mathlib.Core.List.{List, [], ◌∷◌, ◌++◌, append_assoc, append-nil, flatten}
use Prim.Native.Nat.{ℕ, ◌+◌, ◌-◌, ◌≤◌}
use native.Mathlib.Omega.{arith}
use lib.ListN.{length, take, drop, length-append, take-append-drop}
use lib.Seq.{length-take-le, take-append_seam, drop-append-add, drop-drop}
use Rattle.bits.specs.Bits.{Bytes, bit_of, word_bits, byte_count, unpack, word_of, bytes_of, pack, count}
use Rattle.bits.proofs.Packing.{bytes_take}
use Rattle.fibonacci.specs.Code.{past, F, value, first, number, size, digits, codeword}
use Rattle.fibonacci.specs.Encoding.{row_bits, encoding, parse_after, parse, numbers}
use Rattle.fibonacci.proofs.Rows.{bits-append, encoding-length}
use Rattle.calls.specs.Calls.{Outcome}
use Rattle.calls.specs.Limits.{is_order, Order, is_number, is_outside}
use Rattle.calls.specs.Reading.{check_finished, contents, decode}
use Rattle.calls.proofs.Checks.{accepted-one}
use Rattle.calls.proofs.Writing.{Writable}
use Rattle.headers.specs.declared.Header.{Header}
use Rattle.headers.specs.Headers.{header_of, no_header, capacity, is_bad_header}
use Rattle.headers.proofs.Headers.{is-good}
use Rattle.header_reader.specs.Reading.{read_header}
use Rattle.encoder.specs.Writing.{write, write_into}
use Rattle.encoder.proofs.Writing.{writing, write-is}
use Rattle.appender.specs.Appending.{append, append_into}
use Rattle.appender.proofs.Appending.{Appendable, append-accepts}
use Rattle.demands.specs.Headers.{reached, IsTrue, row_of, append_all, HeaderDemand, HeaderExamples}
use Rattle.demands.proofs.RoundTrip.{decode-encoding, decoded-encoding, front, write-into}
use Rattle.demands.proofs.Truth.{read-header, header_is, bytes-reached, true-order, true_row, true-within, true_good, true_total, extended-is, legal-begin, longer, appendable, appended_longer, appended_into, true-front, row-front, front_length, written_true}
use Rattle.std.specs.Prelude.{Ok}

-- ## Number after number

-- a row's encoding is no longer than that of a row that it begins
encoding-grows : (m : ℕ) (row ns : List ℕ) → length (encoding m row) ≤ length (encoding m (row ++ ns))
encoding-grows m row ns =
    omega (arith, encoding-length m row, encoding-length m (row ++ ns), ap length (bits-append m row ns), length-append (row_bits m row) (row_bits m ns))

-- a row that begins one that is written is written too
begin-writable : (m : ℕ) (row ns : List ℕ) (room : ℕ) → Writable (writing m (row ++ ns)) room → Writable (writing m row) room
begin-writable m row ns room w =
    record {
      asked = w.asked;
      count = omega (arith, w.count, length-append row ns);
      legal = legal-begin row ns w.legal;
      fits = omega (arith, w.fits, encoding-grows m row ns);
    }

-- a number more, after the encoding of a row in a buffer
module _ (m : ℕ) (row before : List ℕ) (n : ℕ) (w : Writable (writing m (row ++ (n ∷ []))) (length before)) where
  shorter : Writable (writing m row) (length before)
  shorter = begin-writable m row (n ∷ []) (length before) w

  front-appendable : Appendable m (length (front m row before)) (header_of m row) n
  front-appendable =
      appendable m (front m row before) (header_of m row) n (true-front m row before shorter) (rw (row-front m row before shorter, front_length m row before shorter) w)

  front-append : append m (length (front m row before)) (header_of m row) n ≡ Ok (length (encoding m (row ++ (n ∷ []))), header_of m (row ++ (n ∷ [])))
  front-append =
      append-accepts m (length (front m row before)) (header_of m row) n front-appendable
      ∙ ap (λ (g : Header). Ok (byte_count g.bits, g)) (extended-is m row n)
      ∙ ap (λ (k : ℕ). Ok (k, header_of m (row ++ (n ∷ [])))) (sym (encoding-length m (row ++ (n ∷ []))))

  front-into : append_into m (front m row before) (header_of m row) n ≡ front m (row ++ (n ∷ [])) before
  front-into =
      let b : List ℕ = front m row before in
      let new : List ℕ = encoding m (row ++ (n ∷ [])) in
      let used : ℕ = length (encoding m row) in
      let at : used + (length new - used) ≡ length new = omega (arith, encoding-grows m row (n ∷ [])) in
      let later : drop (length new) b ≡ drop (length new) before =
      ap (λ (j : ℕ). drop j b) (sym at) ∙ drop-append-add (encoding m row) (drop used before) (length new - used)
      ∙ drop-drop (length new - used) used before ∙ ap (λ (j : ℕ). drop j before) at in
      appended_into m b (header_of m row) n (true-front m row before shorter) _ front-append
      ∙ ap (λ (r : List ℕ). write_into m (r ++ (n ∷ [])) b) (row-front m row before shorter)
      ∙ write-into m (row ++ (n ∷ [])) b (rw (front_length m row before shorter) w) ∙ ap (λ (l : List ℕ). new ++ l) later

append-all : (m : ℕ) (row ns before : List ℕ) → Writable (writing m (row ++ ns)) (length before)
    → append_all m (front m row before) (header_of m row) ns ≡ Ok (front m (row ++ ns) before, header_of m (row ++ ns))
append-all m row [] before w = ap (λ (r : List ℕ). Ok (front m r before, header_of m r)) (sym (append-nil row))
append-all m row (n ∷ ns) before w =
    let later : Writable (writing m ((row ++ (n ∷ [])) ++ ns)) (length before) = rw (append_assoc row (n ∷ []) ns) w in
    let next : Writable (writing m (row ++ (n ∷ []))) (length before) = begin-writable m (row ++ (n ∷ [])) ns (length before) later in
    rw (front-into m row before n next, front-append m row before n next)
    (append-all m (row ++ (n ∷ [])) ns before later ∙ ap (λ (r : List ℕ). Ok (front m r before, header_of m r)) (append_assoc row (n ∷ []) ns))

-- what writing answers and leaves
written_all : (m : ℕ) (row before : List ℕ) (bytes : ℕ) (h : Header) → write m row (length before) ≡ Ok (bytes, h)
    → Writable (writing m row) (length before) × (◌≡◌ {A = Outcome (List ℕ × Header)} (Ok (front m row before, header_of m row)) (Ok (write_into m row before, h)))
written_all m row before bytes h e =
    let i = write-is m row (length before) bytes h e in
    (i.0, ap₂ (λ (b : List ℕ) (g : Header). Ok (b, g)) (sym (write-into m row before i.0)) (sym i.2))

appended_written : (m : ℕ) (row before : List ℕ) (bytes : ℕ) (h : Header) → write m row (length before) ≡ Ok (bytes, h)
    → append_all m before no_header row ≡ Ok (write_into m row before, h)
unfolding encoding pack bytes_of row_bits flatten
appended_written m row before bytes h e =
    let i = written_all m row before bytes h e in
    append-all m [] row before i.0 ∙ i.1

-- the buffer of a true header begins with its row's encoding
true-front-is : (m : ℕ) (before : List ℕ) (h : Header) → Bytes before → IsTrue m before h → before ≡ front m (row_of m before h) before
true-front-is m before h b e =
    let k : ℕ = byte_count h.bits in
    let s : reached before h ≡ encoding m (row_of m before h) =
    decoded-encoding m (reached before h) (row_of m before h) (true-order m before h e) (bytes_take k before b) (header_is m (reached before h) h e).1 in
    sym (take-append-drop k before)
    ∙ ap (λ (j : ℕ). take k before ++ drop j before) (sym (length-take-le k before (true-within m before h e)))
    ∙ ap (λ (l : List ℕ). l ++ drop (length l) before) s

appended_all : (m : ℕ) (before ns : List ℕ) (h : Header) (bytes : ℕ) (g : Header) → Bytes before → IsTrue m before h
    → write m (row_of m before h ++ ns) (length before) ≡ Ok (bytes, g) → append_all m before h ns ≡ Ok (write_into m (row_of m before h ++ ns) before, g)
appended_all m before ns h bytes g b e w =
    let i = written_all m (row_of m before h ++ ns) before bytes g w in
    ap₂ (λ (buf : List ℕ) (h : Header). append_all m buf h ns) (true-front-is m before h b e) (true_row m before h e) ∙ append-all m (row_of m before h) ns before i.0 ∙ i.1

-- ## All of it

pub read_true : (m : ℕ) (s behind : List ℕ) (h : Header) → read_header m s ≡ Ok h → IsTrue m (s ++ behind) h
read_true m s behind h e =
    ap (λ (k : ℕ). read_header m (take k (s ++ behind))) (bytes-reached m s h e) ∙ ap (read_header m) (take-append_seam s behind) ∙ e

none_true : (m : ℕ) → Order m → (buf : List ℕ) → IsTrue m buf no_header
unfolding encoding pack bytes_of row_bits flatten
none_true m o buf = read-header m [] [] o (decode-encoding m [] o (omega arith) tt)

appended_true : (m : ℕ) (before : List ℕ) (h : Header) (n bytes : ℕ) (g : Header) → IsTrue m before h → append m (length before) h n ≡ Ok (bytes, g)
    → IsTrue m (append_into m before h n) g
appended_true m before h n bytes g e a =
    rw (appended_into m before h n e (bytes, g) a) (written_true m (longer m before h n e) before bytes g ((appended_longer m before h n e (bytes, g)).0 a))

pub header-demand : (m : ℕ) → HeaderDemand m
header-demand m =
    record {
      written_true = written_true m;
      read_true = read_true m;
      appended_true = appended_true m;
      none_true = none_true m;
      true_row = true_row m;
      true_total = true_total m;
      true_good = λ buf h e. is-good (length buf) h (true_good m buf h e);
      appended_longer = appended_longer m;
      appended_into = appended_into m;
      appended_all = appended_all m;
      appended_written = appended_written m;
    }

-- ## Examples

pub header_examples : HeaderExamples
unfolding flatten bit_of word_bits unpack word_of bytes_of pack count past F value first number size digits codeword row_bits encoding parse_after parse numbers is_order is_number is_outside check_finished contents decode capacity is_bad_header read_header append append_into
header_examples =
    record {
      read_ones = refl;
      not_true = λ e. let bits : ◌≡◌ {A = ℕ} 8 2 = ap (λ (h : Header). h.bits) (accepted-one e) in omega arith;
      is_true = refl;
      by_false = refl;
      by_false_into = refl;
      later_bytes = refl;
      most_bits = refl;
      too_many_bits = refl;
      full_row = refl;
      refused_header = refl;
      most_total = refl;
      too_much_total = refl;
    }
