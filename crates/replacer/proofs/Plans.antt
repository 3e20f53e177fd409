-- What is planned by what a scan tells of a row, check by check.
use mathlib.Core.Path.{◌≡◌, sym, ap, subst, ◌∙◌}
use mathlib.Core.Bool.{true, false}
use mathlib.Core.List.{List}
use Prim.Native.Nat.{ℕ, ◌+◌, ◌-◌, ◌^◌, ◌≤◌, ◌<◌, min}
use native.Mathlib.Omega.{arith}
use lib.ListN.{length, take, set}
use Rattle.bits.specs.Bits.{unpack, byte_count}
use Rattle.bits.specs.declared.Word.{Word}
use Rattle.fibonacci.specs.Code.{codeword}
use Rattle.fibonacci.specs.Encoding.{encoding, numbers}
use Rattle.fibonacci.proofs.Rows.{encoding-length}
use Rattle.codewords.specs.Leaves.{Codes}
use Rattle.calls.specs.declared.Refusal.TheVariants.{BadPlace, BadNumber, NoRoom}
use Rattle.calls.specs.Calls.{and_then}
use Rattle.calls.specs.Limits.{Order, is_number, max_number}
use Rattle.calls.specs.Reading.{decode}
use Rattle.calls.proofs.Checks.{is-order, told-accepted}
use Rattle.reading.specs.Reading.{fibonacci}
use Rattle.reading.proofs.Decoding.{decode_is}
use Rattle.headers.specs.declared.Header.{Header}
use Rattle.headers.specs.Headers.{header, header_of}
use Rattle.word_decoder.specs.declared.Summary.{Summary}
use Rattle.word_decoder.specs.Leaves.{summary}
use Rattle.replacer.specs.Replacing.{change, replace}
use Rattle.replacer.specs.Leaves.{Puts}
use Rattle.replacer.proofs.Rows.{Replaceable, told-codeword, replaceable, told-changed}
use Rattle.replacer.proofs.Replacing.{replace-read, change-place, change-number, change-room, change-header}
use Rattle.std.specs.Prelude.{Ok, Err}

module _ (m : ℕ) (before : List ℕ) (used p n q : ℕ) (told : Summary) where
  -- the row that was read, and what was told of it
  pub record Told : Type 0 where
    pub row : List ℕ
    pub read : decode (fibonacci m) max_number (take used before) ≡ Ok row
    pub told_is : told ≡ summary m p q row

  pub told-read : Ok told ≡ and_then (decode (fibonacci m) max_number (take used before)) (λ row. Ok (summary m p q row)) → Told
  told-read e = let t = told-accepted _ (summary m p q) _ e in record { row = t.0; read = t.1; told_is = t.2 }

  module _ (o : Order m) (i : used ≤ length before) (t : Told) where
    outcome : replace m before used p n ≡ change m (length before) t.row p n
    outcome = replace-read m before used p n (is-order m o) i t.row t.read

    count : told.count ≡ length t.row
    count = ap (λ (f : Summary). f.count) t.told_is

    pub plan-place : told.count ≤ p → replace m before used p n ≡ Err BadPlace
    plan-place h = outcome ∙ change-place m (length before) t.row p n (omega (arith, count))

    module _ (h : p < told.count) where
      inside : p < length t.row
      inside = omega (arith, count)

      pub plan-number : is_number max_number n ≡ false → replace m before used p n ≡ Err (BadNumber 0)
      plan-number f = outcome ∙ change-number m (length before) t.row p n inside f

      -- the span that was summed is the one place
      module _ (near : q ≡ min (p + 1) (2 ^ 64 - 1)) where
        one : q ≡ p + 1
        one = omega (arith, inside, (decode_is m max_number (take used before) t.row t.read).long)

        pub plan-part : Replaceable m told
        plan-part =
            let d = decode_is m max_number (take used before) t.row t.read in
            replaceable m t.row p n inside q one told t.told_is o d.legal d.long

        -- the change of the row
        module _ (legal : is_number max_number n ≡ true) (old : ℕ) (word : Word) (e : old ≡ length (codeword m told.total)) (codes : Codes m n word) where
          abbrev longer : Header
          longer = header (told.bits - old + word.len) told.count (told.all - told.total + n)

          changed : longer ≡ header_of m (set t.row p n)
          changed = told-changed m t.row p n inside q one told t.told_is e codes.1

          bytes : length (encoding m (set t.row p n)) ≡ byte_count longer.bits
          bytes = encoding-length m (set t.row p n) ∙ ap (λ (h : Header). byte_count h.bits) (sym changed)

          pub plan-room : length before < byte_count longer.bits → replace m before used p n ≡ Err NoRoom
          plan-room l = outcome ∙ change-room m (length before) t.row p n inside legal (omega (arith, bytes))

          pub plan-done : byte_count longer.bits ≤ length before
              → (replace m before used p n ≡ Ok (byte_count longer.bits, longer))
              × Puts m (numbers m (unpack (take used before))) p n (record { start = told.start; old = old; word = word; header = longer })
          plan-done l =
              let puts : Puts m t.row p n (record { start = told.start; old = old; word = word; header = longer }) =
              record {
                within = inside;
                start = ap (λ (f : Summary). f.start) t.told_is;
                old = e ∙ told-codeword m t.row p n inside q one told t.told_is;
                word = codes;
              } in (
                outcome ∙ change-header m (length before) t.row p n longer changed (record { within = inside; legal = legal; fits = omega (arith, bytes) }),
                subst (λ (row : List ℕ). Puts m row p n (record { start = told.start; old = old; word = word; header = longer }))
                    (decode_is m max_number (take used before) t.row t.read).is puts,
              )
