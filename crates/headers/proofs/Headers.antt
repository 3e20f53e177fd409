-- How many bits there is room for, and headers that pass their check.
use mathlib.Core.Path.{◌≡◌}
use mathlib.Core.Bool.{false}
use Prim.Native.Nat.{ℕ, ◌*◌, ◌≤◌}
use native.Mathlib.Omega.{arith}
use lib.Dec.{ltb}
use borrow.Author.Tests.{le-ltb, ltb-false}
use Rattle.calls.specs.Limits.{max_count}
use Rattle.calls.proofs.Checks.{neither}
use Rattle.headers.specs.declared.Header.{Header}
use Rattle.headers.specs.Headers.{max_bits, max_total, capacity, is_bad_header}

pub capacity-most : (room : ℕ) → (capacity room ≤ 8 * room) × (capacity room ≤ max_bits)
unfolding capacity
capacity-most room = (omega arith, omega arith)

pub capacity-least : (room bits : ℕ) → bits ≤ 8 * room → bits ≤ max_bits → bits ≤ capacity room
unfolding capacity
capacity-least room bits h k = omega arith

-- what the check says of a header that passes it
pub record Good (room : ℕ) (h : Header) : Type 0 where
  pub bits : h.bits ≤ capacity room
  pub count : h.count ≤ max_count
  pub total : h.total ≤ max_total

module _ (room : ℕ) (h : Header) where
  pub good-is : is_bad_header room h ≡ false → Good room h
  unfolding is_bad_header
  good-is e =
      let b = neither (ltb (capacity room) h.bits) _ e in
      let c = neither (ltb max_count h.count) (ltb max_total h.total) b.1 in
      record { bits = ltb-false _ _ b.0; count = ltb-false _ _ c.0; total = ltb-false _ _ c.1 }

  pub is-good : Good room h → is_bad_header room h ≡ false
  unfolding is_bad_header
  is-good g = simp (le-ltb _ _ g.bits, le-ltb _ _ g.count, le-ltb _ _ g.total)
