-- Paper 01, the sentences under "Knots to check by pencil", and the one on the longest codeword.
use Rattle.std.specs.Prelude.{◌≡◌, true, List, [], ◌∷◌, map, ℕ, suc, ◌*◌, ◌≤◌, length, replicate, Ok, Err}
use Rattle.fibonacci.specs.Code.{codeword}
use Rattle.fibonacci.specs.Encoding.{encoding}
use Rattle.calls.specs.declared.Refusal.TheVariants.{TooManyNumbers, TooManyCodewords, FullRow}
use Rattle.calls.specs.Limits.{Order, is_number, max_number, max_count}
use Rattle.headers.specs.Headers.{header, header_of}
use Rattle.reading.specs.Reading.{read}
use Rattle.encoder.specs.Writing.{write}
use Rattle.appender.specs.Appending.{append}
use Rattle.demands.specs.Pencil.{answer, Read, orders}

-- A row of ones
unfoldable pub ones_row : ℕ → List ℕ
ones_row k = replicate k 1

-- "4,096 ones in order 2 fill 1,024 bytes; a 4,097th gives 4": in order m they fill 512 m bytes, with no bit to spare
pub record Ones (m : ℕ) : Type 0 where
  pub full : (room : ℕ) → 512 * m ≤ room → write m (ones_row max_count) room ≡ Ok (512 * m, header (4096 * m) 4096 4096)
  -- a 4,097th in writing, in reading and in appending
  pub written : (room : ℕ) → write m (ones_row (suc max_count)) room ≡ Err TooManyNumbers
  pub read_back : (room : ℕ) → read m (encoding m (ones_row (suc max_count))) room ≡ Err TooManyCodewords
  pub appended : (room : ℕ) → 512 * m ≤ room → append m room (header_of m (ones_row max_count)) 1 ≡ Err FullRow

-- "Number 4,294,967,295 is accepted; the codeword of the next gives 7"
pub record Largest : Type 0 where
  -- its bytes and bits in each order
  pub written : orders (λ m. write m (max_number ∷ []) 6) ≡ map (λ (x : ℕ × ℕ). Ok (x.0, header x.1 1 max_number)) ((6, 47) ∷ (5, 39) ∷ (5, 38) ∷ (5, 38) ∷ (5, 39) ∷ [])
  pub read_back : orders (λ m. answer (Read m (encoding m (max_number ∷ [])) 1)) ≡ replicate 5 (0, 0, 1 ∷ [], max_number ∷ [])
  pub next : orders (λ m. answer (Read m (encoding m (suc max_number ∷ [])) 1)) ≡ replicate 5 (7, 0, [], 0 ∷ [])

-- For every order
pub record Sentences : Type 0 where
  -- "The longest codeword of a legal number has 47 bits": no legal number's has more, in any order; in order 2 the largest number's has so many (below)
  pub longest : (m : ℕ) → Order m → (n : ℕ) → is_number max_number n ≡ true → length (codeword m n) ≤ 47
  pub ones : (m : ℕ) → Order m → Ones m
  pub largest_number : Largest
