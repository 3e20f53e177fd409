-- How many bits the bitmaps of a row have at most: 16 for each of its numbers.
use mathlib.Core.Bool.{Bool, true, false}
use mathlib.Core.List.{List, []}
use Prim.Native.Nat.{ℕ, zero, suc, ◌+◌, ◌*◌, ◌≤◌, ◌<◌}
use native.Mathlib.Omega.{arith}
use native.Mathlib.Nat.{mul-add, suc-mul, mul-le-mul_left}
use native.Mathlib.Decide.{dec_le}
use lib.ListN.{take, drop, length-take}
use Rattle.bits.specs.Bits.{count}
use Rattle.bits.proofs.Count.{count-both}
use Rattle.fibonacci.specs.Code.{first}
use Rattle.calls.specs.Limits.{Order}
use Rattle.wavelet.specs.Nodes.{Tree, leaf, node, prune, tree}
use Rattle.wavelet.specs.Bitmaps.{need}
use Rattle.wavelet.specs.Questions.{max_alphabet}
use Rattle.wavelet.specs.Leaves.{Describes}
use Rattle.wavelet.proofs.Pruned.{cursor-root, cursor-node, cursor-high, cursor-full}
use Rattle.wavelet.proofs.Cursors.{shallow, low-more}

-- a tree is at most h nodes deep
abbrev Within : ℕ → Tree → Type 0
Within h (leaf n) = Unit {0}
Within zero (node p z o) = ⊥
Within (suc h) (node p z o) = Within h z × Within h o

need-most : (t : Tree) (h k : ℕ) (b : List Bool) → Within h t → need t k b ≤ h * k
unfolding need
need-most (leaf n) h k b w = omega arith
need-most (node p z o) zero k b w = absurd w
need-most (node p z o) (suc h) k b w =
    let y = count false (take k b) in
    let x = count true (take k b) in
    let few : y + x ≤ k = omega (arith, count-both (take k b), length-take k b) in
    let both : h * y + h * x ≤ h * k = rw (← mul-add h y x) (mul-le-mul_left h few) in
    rw suc-mul (omega (arith, need-most z h y (drop k b) w.0, need-most o h x (drop (need z y (drop k b)) (drop k b)) w.1))

-- at a leaf nothing is left to show
leaf-or : (h f : ℕ) {m N : ℕ} {q : List Bool} {s w r c : ℕ} → Describes m N f q s w r c → (r < m → w ≤ N → Within h (prune m N f q)) → Within h (prune m N f q)
leaf-or h f {m} {N} {q} {s} {w} {r} a inner =
    elim (dec_le m r) [
      | yes full ↦ rw (cursor-full a full) tt
      | no few ↦
          elim (dec_le w N) [
            | no high ↦ rw (cursor-high a (omega arith)) tt
            | yes low ↦ inner (omega arith) low
          ]
    ]

-- the tree after a string of s bits is at most 16 - s deep
prune-within : (h f : ℕ) {m N : ℕ} {q : List Bool} {s w r c : ℕ} → Order m → N ≤ max_alphabet → 16 ≤ s + h → first m (s + 1) ≤ w
    → Describes m N f q s w r c → Within h (prune m N f q)
prune-within zero f {m} {s = s} o most deep low a =
    leaf-or zero f a (λ few high. absurd (omega (arith, shallow m (s + 1) o (omega arith))))
prune-within (suc h) f {m} {s = s} {w} o most deep low a =
    leaf-or (suc h) f a (λ few high.
    let k = cursor-node a few high in
    let more = low-more m s w low in
    rw k.tree_is (
      prune-within h k.g o most (omega arith) more k.zero_side,
      prune-within h k.g o most (omega arith) (omega arith) k.one_side,
    ))

pub tree-need : (m N k : ℕ) (b : List Bool) → Order m → 1 ≤ N → N ≤ max_alphabet → need (tree m N) k b ≤ 16 * k
unfolding tree first
tree-need m N k b o some most =
    need-most (prune m N (m + N) []) 16 k b (prune-within 16 (m + N) o most (omega arith) (omega arith) (cursor-root m N (omega arith) some))
