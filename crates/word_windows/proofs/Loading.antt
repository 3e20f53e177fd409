-- How a word is filled with the next bits of an encoding.
use mathlib.Core.Path.{◌≡◌, refl, ap, ◌∙◌}
use mathlib.Core.Bool.{Bool, false}
use mathlib.Core.List.{List, ◌++◌}
use Prim.Native.Nat.{ℕ, ◌+◌, ◌-◌, ◌*◌, ◌/◌, ◌%◌, ◌^◌, ◌≤◌}
use native.Mathlib.Omega.{arith}
use lib.ListN.{length, take, drop, replicate}
use lib.Seq.{drop-drop}
use Rattle.lists.proofs.Lists.{drop-take}
use Rattle.bits.specs.Bits.{word_bits, unpack}
use Rattle.bits.proofs.Bytes.{unpack-take, unpack-drop, unpack-length}
use Rattle.bits.proofs.Words.{words-zero}
use Rattle.word_windows.specs.Leaves.{WindowAt}
use Rattle.word_windows.proofs.Starts.{words_up}

-- ## A word is filled

-- nothing
pub window-none : (b : List Bool) (k : ℕ) → k ≤ length b → WindowAt b k 0
window-none b k h = record { some = 0; others = 64; all = refl; within = omega arith; bits = words-zero 64 }

-- eight bytes from the one with bit k, moved up by o so that bit k is on top
pub window-load : (s : List ℕ) (k o w : ℕ) → o ≡ k % 8 → k / 8 + 8 ≤ length s → word_bits 64 w ≡ unpack (take 8 (drop (k / 8) s))
    → (a : WindowAt (unpack s) k (w * 2 ^ o % 2 ^ 64)) × (a.some ≡ 64 - k % 8)
window-load s k o w is h e =
    let at : 8 * (k / 8) + o ≡ k = omega arith in (
      record {
        some = 64 - o;
        others = o;
        all = omega arith;
        within = omega (arith, unpack-length s);
        bits =
            words_up 64 w o (omega arith)
            ∙ ap (λ (l : List Bool). l ++ replicate o false)
            (ap (drop o) (e ∙ unpack-take (drop (k / 8) s) 8 ∙ ap (take 64) (unpack-drop s (k / 8)))
            ∙ drop-take o 64 (drop (8 * (k / 8)) (unpack s))
            ∙ ap (take (64 - o)) (drop-drop o (8 * (k / 8)) (unpack s) ∙ ap (λ (n : ℕ). drop n (unpack s)) at));
      },
      omega arith,
    )
