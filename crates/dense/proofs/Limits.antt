-- What it says that s is 1 to 254, and bytes as elements below 256.
use mathlib.Core.Path.{◌≡◌}
use mathlib.Core.Bool.{true}
use mathlib.Core.List.{List, [], ◌∷◌}
use Prim.Native.Nat.{ℕ, suc, ◌+◌, ◌≤◌, ◌<◌}
use native.Mathlib.Omega.{arith}
use lib.ListN.{get_or}
use borrow.Author.Tests.{le-leb}
use Rattle.lists.specs.Lists.{All}
use Rattle.calls.proofs.Checks.{within_both}
use Rattle.dense.specs.Limits.{is_stoppers, Stoppers, continuers}

pub stoppers-is : (s : ℕ) → is_stoppers s ≡ true → Stoppers s
unfolding is_stoppers
stoppers-is s e = within_both 1 254 s e

pub is-stoppers : (s : ℕ) → Stoppers s → is_stoppers s ≡ true
unfolding is_stoppers
is-stoppers s h = simp (le-leb 1 s h.0, le-leb s 254 h.1)

-- bytes are below s + c
pub bytes_below : (s : ℕ) (b : List ℕ) → s ≤ 254 → ((i : ℕ) → get_or b i 0 < 256) → All (λ x. x < s + continuers s) b
bytes_below s [] h a = tt
bytes_below s (x ∷ b) h a = (omega (arith, a 0), bytes_below s b h (λ i. a (suc i)))
