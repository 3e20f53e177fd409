-- What appending answers and leaves behind.
use mathlib.Core.Path.{◌≡◌, refl, sym}
use mathlib.Core.Bool.{true, false, not}
use mathlib.Core.List.{List}
use Prim.Native.Nat.{ℕ, ◌≤◌, ◌<◌}
use native.Mathlib.Omega.{arith}
use lib.Dec.{leb, ltb}
use lib.ListN.{length}
use borrow.Author.Tests.{le-leb, lt-leb, leb-false, le-ltb, lt-ltb, ltb-false, not-false}
use Rattle.bits.specs.Bits.{Bytes, byte_count, unpack}
use Rattle.bits.specs.Leaves.{put_at}
use Rattle.bits.proofs.Put.{put-packed}
use Rattle.fibonacci.specs.Code.{codeword}
use Rattle.calls.specs.declared.Refusal.{Refusal}
use Rattle.calls.specs.declared.Refusal.TheVariants.{BadOrder, BadHeader, BadNumber, FullRow, NoRoom}
use Rattle.calls.specs.Limits.{is_order, is_number, is_outside, max_number, max_count}
use Rattle.calls.proofs.Checks.{is-order, number_is, number-inside, inside-number, number-outside, check-passed, accepted-one}
use Rattle.headers.specs.declared.Header.{Header}
use Rattle.headers.specs.Headers.{capacity, is_bad_header}
use Rattle.headers.proofs.Headers.{capacity-most, Good, good-is, is-good}
use Rattle.appender.specs.Appending.{extended, append, append_into}
use Rattle.std.specs.Prelude.{Ok, Err}

-- what the checks say that are made before
pub ruleset checks = (is-order, number_is, number-inside, number-outside, good-is, capacity-most)

module _ (m room : ℕ) (h : Header) (n : ℕ) where
  -- it accepts the number
  pub record Appendable : Type 0 where
    pub asked : is_order m ≡ true
    pub good : Good room h
    pub legal : is_number max_number n ≡ true
    pub count : h.count < max_count
    pub fits : (extended m h n).bits ≤ capacity room

  pub append-is : (x : ℕ × Header) → append m room h n ≡ Ok x → Appendable × (x ≡ (byte_count (extended m h n).bits, extended m h n))
  unfolding append
  append-is x e =
      let p1 = check-passed BadOrder (not (is_order m)) _ _ e in
      let p18 = check-passed BadHeader (is_bad_header room h) _ _ p1.1 in
      let p3 = check-passed (BadNumber 0) (is_outside max_number n) _ _ p18.1 in
      let p4 = check-passed FullRow (leb max_count h.count) _ _ p3.1 in
      let p5 = check-passed NoRoom (ltb (capacity room) (extended m h n).bits) _ _ p4.1 in (
        record {
          asked = not-false _ p1.0;
          good = good-is room h p18.0;
          legal = inside-number max_number n p3.0;
          count = leb-false max_count h.count p4.0;
          fits = ltb-false _ _ p5.0;
        },
        sym (accepted-one p5.1),
      )

  pub append-accepts : Appendable → append m room h n ≡ Ok (byte_count (extended m h n).bits, extended m h n)
  unfolding append
  append-accepts a =
      rw (a.asked, is-good room h a.good, number-inside max_number n a.legal, lt-leb max_count h.count a.count, le-ltb (capacity room) _ a.fits) refl

  -- ## What is refused, check by check

  pub append-order : is_order m ≡ false → append m room h n ≡ Err BadOrder
  unfolding append
  append-order o = rw o refl

  module _ (o : is_order m ≡ true) where
    pub append-header : is_bad_header room h ≡ true → append m room h n ≡ Err BadHeader
    unfolding append
    append-header b = rw (o, b) refl

    module _ (g : is_bad_header room h ≡ false) where
      pub append-number : is_number max_number n ≡ false → append m room h n ≡ Err (BadNumber 0)
      unfolding append
      append-number f = rw (o, g, number-outside max_number n f) refl

      module _ (legal : is_number max_number n ≡ true) where
        pub append-full : max_count ≤ h.count → append m room h n ≡ Err FullRow
        unfolding append
        append-full c = rw (o, g, number-inside max_number n legal, le-leb max_count h.count c) refl

        pub append-room : h.count < max_count → capacity room < (extended m h n).bits → append m room h n ≡ Err NoRoom
        unfolding append
        append-room c l = rw (o, g, number-inside max_number n legal, lt-leb max_count h.count c, lt-ltb (capacity room) _ l) refl

-- ## What it leaves behind

module _ (m : ℕ) (before : List ℕ) (h : Header) (n : ℕ) where
  pub append-refused : (r : Refusal) → append m (length before) h n ≡ Err r → before ≡ append_into m before h n
  unfolding append_into
  append-refused r e = rw e refl

  pub append-put : (x : ℕ × Header) → append m (length before) h n ≡ Ok x → (after : List ℕ) → Bytes before → Bytes after
      → unpack after ≡ put_at h.bits (codeword m n) (unpack before) → after ≡ append_into m before h n
  unfolding append_into
  append-put x e after hb ha u =
      let a = (append-is m (length before) h n x e).0 in
      rw e (put-packed before after h.bits (codeword m n) (omega (arith, a.good.bits, capacity-most (length before))) hb ha u)
