-- What is decided before a buffer is touched: for the contract of the function that decides it. No operation's promise cites it.
use Rattle.std.specs.Prelude.{◌≡◌, ℕ, Ok, Err}
use Rattle.bits.specs.Bits.{byte_count}
use Rattle.bits.specs.declared.Word.{Word}
use Rattle.codewords.specs.Leaves.{Codes}
use Rattle.calls.specs.Calls.{Outcome}
use Rattle.headers.specs.declared.Header.{Header}
use Rattle.appender.specs.Appending.{append}

-- The plan for a number more in a buffer of so many bytes: the codeword to be put, and the header afterwards
abbrev pub Plans : ℕ → ℕ → Header → ℕ → Outcome (Word × Header) → Type 0
Plans m room h n (Ok x) = (append m room h n ≡ Ok (byte_count x.1.bits, x.1)) × Codes m n x.0
Plans m room h n (Err r) = append m room h n ≡ Err r
