-- What measuring and putting a row need to know and tell.
use Rattle.std.specs.Prelude.{◌≡◌, List, ◌++◌, ℕ, ◌+◌, ◌≤◌, leb, count_by, length, take, drop}
use Rattle.calls.specs.Limits.{Legal, max_number, max_count}
use Rattle.dense.specs.Encoding.{encoding}
use Rattle.dense.specs.Limits.{Stoppers, continuers}

-- How many numbers of a row are at least so large
abbrev pub count_from : ℕ → List ℕ → ℕ
count_from low row = count_by (leb low) row

-- A row that has passed its checks
abbrev pub Checked : List ℕ → Type 0
Checked row = (length row ≤ max_count) × Legal max_number row

-- The codeword w stands before place `end` of a buffer, and begins at place `at`; all else is as it was
abbrev pub PutBefore : List ℕ → ℕ → ℕ → List ℕ → List ℕ → Type 0
PutBefore w end at before after = (at + length w ≡ end) × (after ≡ take at before ++ (w ++ drop end before))

-- A row whose encoding has so many bytes, for which there is room
abbrev pub Fits : ℕ → List ℕ → ℕ → ℕ → Type 0
Fits s row bytes room = Stoppers s × Checked row × (bytes ≡ length (encoding s (continuers s) row)) × (bytes ≤ room)
