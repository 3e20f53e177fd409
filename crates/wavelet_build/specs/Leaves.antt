-- What the functions that build an index promise.
use Rattle.std.specs.Prelude.{◌≡◌, List, ℕ, length, take, Ok}
use Rattle.calls.specs.declared.Refusal.TheVariants.{OutsideAlphabet}
use Rattle.calls.specs.Calls.{Outcome}
use Rattle.calls.specs.Limits.{check_each}
use Rattle.wavelet_bitmaps.specs.Leaves.{AllAligned}

-- Filling answers as the check of each number does, and where that accepts, the words have the numbers' codewords
abbrev pub Fills : ℕ → ℕ → List ℕ → List ℕ → Outcome ℕ → Type 0
Fills m N row words r =
    (r ≡ check_each OutsideAlphabet N 0 row (Ok (length row))) × ((n : ℕ) → r ≡ Ok n → AllAligned m row (take (length row) words))
