-- Codewords at the top of a word of 32 bits.
use mathlib.Core.Path.{◌≡◌, sym, ap, ◌∙◌, subst}
use mathlib.Core.Bool.{Bool, false}
use mathlib.Core.List.{List, ◌++◌}
use Prim.Native.Nat.{ℕ, ◌+◌, ◌-◌, ◌*◌, ◌%◌, ◌^◌, ◌≤◌, ◌<◌}
use native.Mathlib.Omega.{arith}
use lib.ListN.{length, get_or, replicate}
use lib.Pow.{shl_lt, shl_exact}
use Rattle.lists.proofs.Lists.{filled-default}
use Rattle.bits.specs.Bits.{word_bits}
use Rattle.bits.proofs.Words.{words-at, words-padded}
use Rattle.fibonacci.specs.Code.{size, codeword}
use Rattle.calls.specs.Limits.{Order}
use Rattle.fibonacci.proofs.Lookup.{codeword-bits}
use Rattle.fibonacci.proofs.Numbers.{codeword-size}
use Rattle.wavelet.specs.Questions.{max_alphabet}
use Rattle.wavelet.specs.Leaves.{Aligned}
use Rattle.wavelet.proofs.Cursors.{shallow}

-- how long the codewords of the alphabet are
pub aligned_short : (m n : ℕ) → Order m → 1 ≤ n → n ≤ max_alphabet → length (codeword m n) ≤ 22
aligned_short m n o a b =
    let d = size m n n 0 in
    let short : d ≤ 16 = shallow m d o (omega (arith, (codeword-size m n (omega arith) a).0)) in
    omega (arith, codeword-bits m n)

module _ (k w : ℕ) (long : k ≤ 32) (small : w < 2 ^ k) where
  -- the word, shifted to the top
  shifted : w * 2 ^ (32 - k) % 2 ^ 64 ≡ w * 2 ^ (32 - k)
  shifted = shl_exact k (32 - k) 64 small (omega arith)

  pub aligned_fits : w * 2 ^ (32 - k) % 2 ^ 64 < 2 ^ 32
  aligned_fits =
      let e : k + (32 - k) ≡ 32 = omega arith in
      rw shifted (subst (λ (i : ℕ). w * 2 ^ (32 - k) < 2 ^ i) e (shl_lt k (32 - k) small))

  pub aligned_is : (m n : ℕ) → word_bits k w ≡ codeword m n → Aligned m n (w * 2 ^ (32 - k) % 2 ^ 64)
  aligned_is m n bits s h =
      let e : k + (32 - k) ≡ 32 = omega arith in
      let x = w * 2 ^ (32 - k) in
      let all : word_bits 32 x ≡ codeword m n ++ replicate (32 - k) false =
      ap (λ (j : ℕ). word_bits j x) (sym e) ∙ words-padded k (32 - k) w ∙ ap (λ (l : List Bool). l ++ replicate (32 - k) false) bits in
      rw shifted (sym (words-at 32 x s h) ∙ ap (λ (l : List Bool). get_or l s false) all ∙ filled-default (codeword m n) (32 - k) s false)
