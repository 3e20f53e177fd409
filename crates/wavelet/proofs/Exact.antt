-- Whether bytes are an index.
use mathlib.Core.Path.{◌≡◌}
use mathlib.Core.Bool.{true, false}
use mathlib.Core.List.{List}
use Prim.Native.Nat.{ℕ, ◌-◌, ◌*◌, ◌<◌}
use native.Mathlib.Omega.{arith}
use lib.Dec.{eqb}
use lib.ListN.{length, take, drop, length-drop}
use lib.Seq.{take_all}
use borrow.Author.Tests.{eq-eqb, ne_eqb}
use Rattle.bits.specs.Bits.{unpack, byte_count, count}
use Rattle.bits.proofs.Bytes.{unpack-length}
use Rattle.wavelet.specs.Bitmaps.{exact}

module _ (s : List ℕ) (end : ℕ) where
  pub exact-other : (byte_count end ≡ length s → ⊥) → exact end s ≡ false
  exact-other f = simp (ne_eqb (byte_count end) (length s) f)

  -- more bits than there are
  pub exact_past : 8 * length s < end → exact end s ≡ false
  exact_past h = exact-other (λ q. omega arith)

  pub exact_is : byte_count end ≡ length s → (c : ℕ) → c ≡ count true (take (length s * 8 - end) (drop end (unpack s))) → eqb c 0 ≡ exact end s
  exact_is f c q =
      let all : take (length s * 8 - end) (drop end (unpack s)) ≡ drop end (unpack s) =
      take_all (length s * 8 - end) (drop end (unpack s)) (omega (arith, length-drop end (unpack s), unpack-length s)) in
      simp (eq-eqb (byte_count end) (length s) f, q, all)
