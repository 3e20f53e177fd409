-- What is decided before a buffer is touched: for the contract of the function that decides it. No operation's promise cites it.
use Rattle.std.specs.Prelude.{◌≡◌, List, ℕ, ◌<◌, length, take, get_or, Ok, Err}
use Rattle.bits.specs.Bits.{unpack, byte_count}
use Rattle.fibonacci.specs.Code.{codeword}
use Rattle.fibonacci.specs.Encoding.{row_bits, numbers}
use Rattle.codewords.specs.Leaves.{Codes}
use Rattle.calls.specs.Calls.{Outcome}
use Rattle.replacer.specs.Replacing.{replace}
use Rattle.replacer.specs.declared.Replacement.{Replacement}

-- The codeword of n for that at a place of a row
pub record Puts (m : ℕ) (row : List ℕ) (place n : ℕ) (x : Replacement) : Type 0 where
  pub within : place < length row
  pub start : x.start ≡ length (row_bits m (take place row))
  pub old : x.old ≡ length (codeword m (get_or row place 0))
  pub word : Codes m n x.word

-- The plan for a number in the place of another in a buffer
abbrev pub Plans : ℕ → List ℕ → ℕ → ℕ → ℕ → Outcome Replacement → Type 0
Plans m before used place n (Ok x) =
    (replace m before used place n ≡ Ok (byte_count x.header.bits, x.header)) × Puts m (numbers m (unpack (take used before))) place n x
Plans m before used place n (Err r) = replace m before used place n ≡ Err r
