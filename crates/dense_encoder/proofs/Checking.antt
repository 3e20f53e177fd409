-- The check of each number of a row, by the place of the first at fault.
use mathlib.Core.Path.{◌≡◌, refl, sym, ap, ◌∙◌}
use mathlib.Core.Bool.{Bool, true, false, not, cond}
use mathlib.Core.List.{List, [], ◌∷◌}
use Prim.Native.Nat.{ℕ, suc}
use native.Mathlib.Numerals.{add-one}
use Rattle.std.specs.Prelude.{Option, None, Some, Ok, Err, position}
use Rattle.std.specs.List.{position_from}
use Rattle.std.proofs.lemmas.Iterator.Adapters.{position_from-zero}
use Rattle.calls.specs.declared.Refusal.{Refusal}
use Rattle.calls.specs.Calls.{Outcome, check}
use Rattle.calls.specs.Limits.{is_number, check_each}
use Rattle.calls.proofs.Checks.{outside-is}

module _ (fault : ℕ → Refusal) (limit : ℕ) where
  abbrev outside : ℕ → Bool
  outside n = not (is_number limit n)

  -- what is answered of the first place
  abbrev judged : Option ℕ → Outcome (Unit {0})
  judged None = Ok tt
  judged (Some place) = Err (fault place)

  each-from : (place : ℕ) (row : List ℕ) → check_each fault limit place row (Ok tt) ≡ judged (position_from outside place row)
  unfolding check_each
  each-from place [] = refl
  each-from place (n ∷ row) =
      rw (← outside-is limit n, add-one) (
      elim (outside n)
      as (λ v. check (fault place) v (check_each fault limit (suc place) row (Ok tt)) ≡ judged (cond v (Some place) (position_from outside (suc place) row))) [
        | true ↦ refl
        | false ↦ each-from (suc place) row
      ]
      )

  pub each-first : (row : List ℕ) (first found : Option ℕ) → found ≡ position outside row → found ≡ first → judged first ≡ check_each fault limit 0 row (Ok tt)
  each-first row first found e q = ap judged (sym q ∙ e ∙ position_from-zero outside row) ∙ sym (each-from 0 row)
