-- Strings that begin others, and the elements that pass a test.
use mathlib.Core.Path.{◌≡◌, refl, sym, ap, ◌∙◌}
use mathlib.Core.Bool.{Bool, true, false, ◌&&◌, true≢false}
use mathlib.Core.List.{List, [], ◌∷◌, ◌++◌, append_assoc}
use Prim.Native.Nat.{◌<◌}
use native.Mathlib.Omega.{arith}
use lib.ListN.{length, get_or, drop}
use Rattle.bits.specs.Bits.{same_bit}
use Rattle.calls.proofs.Checks.{both}
use Rattle.wavelet.specs.Nodes.{is_prefix}

pub is_same : (a c : Bool) → same_bit a c ≡ true → a ≡ c
is_same true c e = sym e
is_same false true e = e
is_same false false e = refl

pub is-self : (a : Bool) → same_bit a a ≡ true
is-self true = refl
is-self false = refl

-- what p begins is p and the rest
pub begins-rest : (p b : List Bool) → is_prefix p b ≡ true → p ++ drop (length p) b ≡ b
unfolding is_prefix
begins-rest [] b e = refl
begins-rest (a ∷ p) [] e = absurd (true≢false (sym e))
begins-rest (a ∷ p) (c ∷ b) e =
    let h = both (same_bit a c) (is_prefix p b) e in
    rw (is_same a c h.0) (ap (λ (l : List Bool). c ∷ l) (begins-rest p b h.1))

pub begins-append : (p b : List Bool) → is_prefix p (p ++ b) ≡ true
unfolding is_prefix
begins-append [] b = refl
begins-append (a ∷ p) b = rw (is-self a) (begins-append p b)

-- so facts about beginnings come from equations
pub begins-by : (p r b : List Bool) → p ++ r ≡ b → is_prefix p b ≡ true
begins-by p r b e = ap (is_prefix p) (sym e) ∙ begins-append p r

pub begins-trans : (p q b : List Bool) → is_prefix p q ≡ true → is_prefix q b ≡ true → is_prefix p b ≡ true
begins-trans p q b e f =
    begins-by p (drop (length p) q ++ drop (length q) b) b (
    sym (append_assoc p (drop (length p) q) (drop (length q) b)) ∙ ap (λ (l : List Bool). l ++ drop (length q) b) (begins-rest p q e) ∙ begins-rest q b f)

-- the bit after p
pub begins-bit : (p b : List Bool) (a : Bool) → is_prefix (p ++ (a ∷ [])) b ≡ true → get_or b (length p) false ≡ a
unfolding is_prefix
begins-bit [] [] a e = absurd (true≢false (sym e))
begins-bit [] (c ∷ b) a e = sym (is_same a c (both (same_bit a c) (is_prefix [] b) e).0)
begins-bit (d ∷ p) [] a e = absurd (true≢false (sym e))
begins-bit (d ∷ p) (c ∷ b) a e = begins-bit p b a (both (same_bit d c) (is_prefix (p ++ (a ∷ [])) b) e).1

pub begins-next : (p b : List Bool) (a : Bool) → is_prefix p b ≡ true → length p < length b → get_or b (length p) false ≡ a → is_prefix (p ++ (a ∷ [])) b ≡ true
unfolding is_prefix
begins-next [] [] a e l f = absurd (omega arith)
begins-next [] (c ∷ b) a e l f = rw (sym f) (ap (λ (v : Bool). v && is_prefix [] b) (is-self c))
begins-next (d ∷ p) [] a e l f = absurd (omega arith)
begins-next (d ∷ p) (c ∷ b) a e l f =
    let h = both (same_bit d c) (is_prefix p b) e in
    rw h.0 (begins-next p b a h.1 (omega arith) f)

pub begins-front : (p b : List Bool) (a : Bool) → is_prefix (p ++ (a ∷ [])) b ≡ true → is_prefix p b ≡ true
begins-front p b a e = begins-trans p (p ++ (a ∷ [])) b (begins-append p (a ∷ [])) e

-- not both a 0 and a 1 stand after p
pub begins-one : (p b : List Bool) → is_prefix (p ++ (false ∷ [])) b ≡ true → is_prefix (p ++ (true ∷ [])) b ≡ true → ⊥
begins-one p b e f = true≢false (sym (begins-bit p b true f) ∙ begins-bit p b false e)
