-- Where bitmaps end, step by step.
use mathlib.Core.Path.{◌≡◌, refl, sym, ap, ◌∙◌}
use mathlib.Core.Bool.{Bool, true, false}
use mathlib.Core.List.{List}
use Prim.Native.Nat.{ℕ, suc, ◌+◌, ◌-◌, ◌*◌, ◌/◌, ◌%◌, ◌≤◌, ◌<◌, min}
use native.Mathlib.Omega.{arith}
use lib.ListN.{length, take, drop, length-take, length-drop}
use lib.Seq.{drop-drop}
use Rattle.std.specs.Prelude.{Option, Some, None}
use Rattle.lists.proofs.Lists.{take_inner}
use Rattle.bits.specs.Bits.{unpack, count}
use Rattle.bits.proofs.Count.{count-le, count-both}
use Rattle.bits.proofs.Bytes.{unpack-drop, unpack-take}
use Rattle.wavelet.specs.Nodes.{Tree, leaf, node}
use Rattle.wavelet.specs.Bitmaps.{need}
use Rattle.wavelet.specs.Leaves.{Place, end_in}
use Rattle.wavelet.proofs.Trees.{need-none}

-- k bits from bit `at` on, in bytes that hold them
pub slice_bits : (s : List ℕ) (at k to : ℕ) → at + k ≤ 8 * to → take k (drop (at % 8) (unpack (take (to - at / 8) (drop (at / 8) s)))) ≡ take k (drop at (unpack s))
slice_bits s at k to h =
    let n = to - at / 8 in
    let b = unpack s in
    let whole : unpack (take n (drop (at / 8) s)) ≡ take (8 * n) (drop (8 * (at / 8)) b) =
    unpack-take (drop (at / 8) s) n ∙ ap (take (8 * n)) (unpack-drop s (at / 8)) in
    let there : 8 * (at / 8) + at % 8 ≡ at = omega arith in
    ap (λ (l : List Bool). take k (drop (at % 8) l)) whole
    ∙ take_inner k (at % 8) (8 * n) (drop (8 * (at / 8)) b) (omega arith)
    ∙ ap (take k) (drop-drop (at % 8) (8 * (at / 8)) b ∙ ap (λ (i : ℕ). drop i b) there)

-- no more of them are ones than there are
pub ones_few : (k : ℕ) (b : List Bool) → count true (take k b) ≤ k
ones_few k b = omega (arith, count-le true (take k b), length-take k b)

-- where bits end, as a number
pub end_least : (total end : ℕ) (r : Option ℕ) → Place total end r → end_in total r ≡ min end (suc total)
end_least total end None h = omega arith
end_least total end (Some x) h = omega arith

-- no numbers, or a leaf
pub ends-none : (t : Tree) (b : List Bool) (at total : ℕ) → at ≤ total → Place total (at + need t 0 b) (Some at)
ends-none t b at total h = (omega (arith, need-none t b), omega (arith, need-none t b))

pub ends-leaf : (n k : ℕ) (b : List Bool) (at total : ℕ) → at ≤ total → Place total (at + need (leaf n) k b) (Some at)
unfolding need
ends-leaf n k b at total h = (omega arith, omega arith)

-- the zeros of a bitmap that has e ones
pub zeros : (k : ℕ) (b : List Bool) (at e : ℕ) → at + k ≤ length b → e ≡ count true (take k (drop at b)) → k - e ≡ count false (take k (drop at b))
zeros k b at e fits ones = omega (arith, count-both (take k (drop at b)), length-take k (drop at b), length-drop at b)

-- a node's bitmap runs past the bits
pub ends-short : (p : List Bool) (z o : Tree) (k : ℕ) (b : List Bool) (at total : ℕ) → total < at + k → Place total (at + need (node p z o) k b) None
unfolding need
ends-short p z o k b at total h = omega arith

-- it is there, and has e ones
module _ (p : List Bool) (z o : Tree) (k : ℕ) (b : List Bool) (at e : ℕ) (fits : at + k ≤ length b) (ones : e ≡ count true (take k (drop at b))) where
  -- the bitmaps of the 0 side come after it, and those of the 1 side after them
  pub need-node : (mid : ℕ) → mid ≡ at + k + need z (k - e) (drop (at + k) b) → at + need (node p z o) k (drop at b) ≡ mid + need o e (drop mid b)
  unfolding need
  need-node mid q =
      let after : drop (need z (k - e) (drop (at + k) b)) (drop (at + k) b) ≡ drop mid b =
      drop-drop (need z (k - e) (drop (at + k) b)) (at + k) b ∙ ap (λ (i : ℕ). drop i b) (sym q) in
      rw (← zeros k b at e fits ones, ← ones, drop-drop k at b, after) (omega arith)

  -- those of the 0 side run past the bits, and so all do; or all end where those of the 1 side do
  pub ends-cut : (total : ℕ) → Place total (at + k + need z (k - e) (drop (at + k) b)) None → Place total (at + need (node p z o) k (drop at b)) None
  ends-cut total h = omega (arith, need-node _ refl)

  pub ends_on : (total mid : ℕ) → Place total (at + k + need z (k - e) (drop (at + k) b)) (Some mid)
      → (r : Option ℕ) → Place total (mid + need o e (drop mid b)) r → Place total (at + need (node p z o) k (drop at b)) r
  ends_on total mid q r h = rw (need-node mid q.0) h
