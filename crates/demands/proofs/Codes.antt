-- Demand 3, for every order from 2 up.
use mathlib.Core.Path.{sym, ap, ◌∙◌}
use Prim.Native.Nat.{ℕ, ◌≤◌}
use native.Mathlib.Omega.{arith}
use Rattle.fibonacci.specs.Code.{codeword}
use Rattle.demands.specs.Codes.{Demand3}
use Rattle.fibonacci.proofs.Numbers.{codeword-good, codeword-number, codeword-length, codeword-form, form-codeword, number_one, number_digits}
use Rattle.fibonacci.proofs.Parse.{parse-is, parse-only}
use Rattle.fibonacci.proofs.Rows.{bits-begin, encoding-parse, encoding-apart}

pub demand-3 : (m : ℕ) → 2 ≤ m → Demand3 m
demand-3 m h =
    let p : 1 ≤ m = omega arith in
    record {
      number_of_codeword = λ w c. (codeword-number m w p c).1;
      codeword_of_number = λ n. codeword-good m n p;
      no_other_codeword = λ w n c e. sym (codeword-number m w p c).0 ∙ ap (codeword m) e;
      form_of_codeword = λ w. (codeword-form m w p, form-codeword m w p);
      number_one = number_one m;
      number_digits = number_digits m;
      numbers_of_length = λ w d. codeword-length m w d p;
      has_parse = λ b. parse-is m b p;
      no_other_parse = λ b s. parse-only m b s p;
      rows_apart = λ a b. encoding-apart m a b p;
      rows_begin = λ a b. bits-begin m a b p;
      parse_of_row = λ row. encoding-parse m row p;
    }
