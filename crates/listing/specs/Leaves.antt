-- What was read.
use Rattle.std.specs.Prelude.{◌≡◌, ℕ, List, Result, Ok, Err, length, take, ⊤}

-- How many bytes of the buffer are the input's
abbrev pub bytes_read : {E : Type 0} → Result ℕ E → ℕ
bytes_read (Ok n) = n
bytes_read (Err e) = 0

-- What was read of the bytes that a reader had left: all, or as many as the buffer has room for
abbrev pub IsRead : {E : Type 0} → Result ℕ E → List ℕ → List ℕ → Type 0
IsRead (Ok n) xs buf = take n buf ≡ take (length buf) xs
IsRead (Err e) xs buf = ⊤
