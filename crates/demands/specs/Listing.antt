-- What holds of every listing (paper 01, "The listing"; "When a call says no": Listing program).
use Rattle.std.specs.Prelude.{◌≡◌, true, List, [], ◌∷◌, ◌++◌, ◌⊎◌, ℕ, suc, ◌+◌, ◌^◌, ◌≤◌, ◌<◌, length, take, drop, Ok, Err}
use Rattle.lists.specs.Lists.{All}
use Rattle.columns.specs.Columns.{column, decimal}
use Rattle.calls.specs.declared.Refusal.{Refusal}
use Rattle.calls.specs.declared.Refusal.TheVariants.{BadOrder, BadNumber, TooMuchInput, BadLine}
use Rattle.calls.specs.Refusals.{reason}
use Rattle.calls.specs.Limits.{max_bytes}
use Rattle.fibonacci.specs.Code.{codeword}
use Rattle.headers.specs.declared.Header.{Header}
use Rattle.encoder.specs.Writing.{write}
use Rattle.listing_input.specs.Input.{input_of, fields, is_input}
use Rattle.listing_text.specs.Listing.{refusal_line, listing, text, put, put_into, max_text_bytes}

-- A number is whole in its columns: they give it back
abbrev pub Whole : ℕ → ℕ → Type 0
Whole w n = decimal (column w n) ≡ n

-- So are place, number, bits and running total of each line
abbrev pub WholeLines : ℕ → ℕ → ℕ → List ℕ → Type 0
WholeLines m place total [] = Unit {0}
WholeLines m place total (n ∷ ns) =
    Whole 5 place × Whole 11 n × Whole 5 (length (codeword m n)) × Whole 16 (total + n) × WholeLines m (suc place) (total + n) ns

pub record ListingDemand : Type 0 where
  -- 1. A text is an input exactly where it has a line for each of some numbers of up to 10 digits, at least one; and then its numbers are these
  pub lines_are : (s : List ℕ) → is_input s ≡ true → (s ≡ input_of (fields s)) × (1 ≤ length (fields s)) × All (λ n. n < 10 ^ 10) (fields s)
  pub are_lines : (ns : List ℕ) → 1 ≤ length ns → All (λ n. n < 10 ^ 10) ns → (is_input (input_of ns) ≡ true) × (fields (input_of ns) ≡ ns)
  -- 2. An input is refused with 4 for its size, 13, 1 or 3: write's own 4 and 5 cannot occur
  pub refusals : (s : List ℕ) (r : Refusal) → listing s ≡ Err r
      → (r ≡ TooMuchInput) ⊎ ((r ≡ BadLine) ⊎ ((r ≡ BadOrder) ⊎ ((place : ℕ) × (r ≡ BadNumber place))))
  -- 3. The library's listing answers a refused input by its text, one line with the refusal's number, in any buffer that has room for that
  pub refused_text : (s before : List ℕ) (r : Refusal) → listing s ≡ Err r → 8 ≤ length before
      → (put (text s) (length before) ≡ Ok 8) × (put_into (text s) before ≡ refusal_line (reason r).0 ++ drop 8 before)
  -- 4. A text goes by no more than the first 45,068 bytes of its input, which is all that the program reads
  pub first_bytes : (s : List ℕ) → text (take 45068 s) ≡ text s
  -- 5. No text passes the program's buffer, and no column of a listing cuts a digit off
  pub text_fits : (s : List ℕ) → length (text s) ≤ max_text_bytes
  pub nothing_cut : (m : ℕ) (row : List ℕ) (bytes : ℕ) (h : Header) → write m row max_bytes ≡ Ok (bytes, h) → WholeLines m 0 0 row × Whole 11 bytes
