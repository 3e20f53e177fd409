-- The listing of a row (paper 01, "The listing"; "When a call says no": Listing program).
use Rattle.std.specs.Prelude.{◌≡◌, not, List, ◌++◌, ℕ, ltb, length, get_or, drop, Ok, Err}
use Rattle.columns.specs.Columns.{ascii, column}
use Rattle.calls.specs.declared.Refusal.TheVariants.{TooMuchInput, BadLine}
use Rattle.calls.specs.Refusals.{reason}
use Rattle.calls.specs.Calls.{Outcome, check, and_then, buffer}
use Rattle.calls.specs.Limits.{max_bytes}
use Rattle.calls.specs.Reading.{counted}
use Rattle.encoder.specs.Writing.{write}
use Rattle.listing_input.specs.Input.{max_input_bytes, fields, is_input}
use Rattle.listing_lines.specs.Lines.{lines}

-- ## What is printed: the lines of a listing, or that of a refusal

-- A refusal is only one line: its number in 5 columns
unfoldable pub refusal_line : ℕ → List ℕ
refusal_line number = ascii "NO" ++ column 5 number ++ ascii "\n"

-- ## What the input gives

-- The checks of writing, and the listing
unfoldable pub listing_of : ℕ → List ℕ → Outcome (List ℕ)
listing_of m row = and_then (write m row max_bytes) (λ x. Ok (lines m row x.0))

-- Listing program: 4 input above 45,067 bytes; 13 an input line of another form, or no line; then write's checks. The first number is the order, the
-- others are the row
unfoldable pub listing : List ℕ → Outcome (List ℕ)
listing s =
    check TooMuchInput (ltb max_input_bytes (length s))
    (check BadLine (not (is_input s))
    (listing_of (get_or (fields s) 0 0) (drop 1 (fields s))))

-- What is printed of a listing or a refusal
abbrev pub printed : Outcome (List ℕ) → List ℕ
printed (Ok t) = t
printed (Err r) = refusal_line (reason r).0

unfoldable pub text : List ℕ → List ℕ
text s = printed (listing s)

-- ## A text in a lent buffer: 5 the buffer is shorter; else how many bytes the text has

unfoldable pub put : List ℕ → ℕ → Outcome ℕ
put t room = counted room t

unfoldable pub put_into : List ℕ → List ℕ → List ℕ
put_into t before = buffer (put t (length before)) t before

-- What is answered, and the buffer before and after
abbrev pub Puts : List ℕ → List ℕ → Outcome ℕ → List ℕ → Type 0
Puts t before answer after = (answer ≡ put t (length before)) × (after ≡ put_into t before)

-- How many bytes a text has at most: the header, a line for each number of the longest row, and the last line
abbrev pub max_text_bytes : ℕ
max_text_bytes = 155703
