-- The limits that calls check (paper 01, "When a call says no").
use Rattle.std.specs.Prelude.{◌≡◌, Bool, true, ◌&&◌, ◌||◌, List, [], ◌∷◌, ℕ, suc, ◌≤◌, leb, ltb, eqb}
use Rattle.lists.specs.Lists.{All}
use Rattle.calls.specs.declared.Refusal.{Refusal}
use Rattle.calls.specs.Calls.{Outcome, check}

-- From one number up to another
abbrev pub within : ℕ → ℕ → ℕ → Bool
within low high x = leb low x && leb x high

-- The order is 2, 3, 4, 5 or 6
unfoldable pub is_order : ℕ → Bool
is_order m = within 2 6 m

-- .. the same as a proposition
abbrev pub Order : ℕ → Type 0
Order m = (2 ≤ m) × (m ≤ 6)

-- A number of a row whose numbers go up to a limit
unfoldable pub is_number : ℕ → ℕ → Bool
is_number limit n = within 1 limit n

-- Each number of a row is one
abbrev pub Legal : ℕ → List ℕ → Type 0
Legal limit row = All (λ n. is_number limit n ≡ true) row

-- The largest number of a row, how many numbers a row has at most, and how many bytes their encoding has at most, in any order
abbrev pub max_number : ℕ
max_number = 4294967295

abbrev pub max_count : ℕ
max_count = 4096

abbrev pub max_bytes : ℕ
max_bytes = 24064

-- 3 and 10: a number is 0 or above the limit
unfoldable pub is_outside : ℕ → ℕ → Bool
is_outside limit n = eqb n 0 || ltb limit n

-- The check of each number of a list from a place on; the first at fault decides
unfoldable pub check_each : {A : Type 0} → (ℕ → Refusal) → ℕ → ℕ → List ℕ → Outcome A → Outcome A
check_each fault limit place [] next = next
check_each fault limit place (n ∷ ns) next =
    check (fault place) (is_outside limit n) (check_each fault limit (suc place) ns next)
