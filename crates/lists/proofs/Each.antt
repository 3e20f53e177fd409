-- What holds of each element of a list.
use mathlib.Core.List.{List, [], ◌∷◌, ◌++◌}
use Prim.Native.Nat.{ℕ, zero, suc}
use lib.ListN.{drop, set, replicate}
use Rattle.lists.specs.Lists.{All}

module _ {A : Type 0} where
  pub all_map : (P Q : A → Type 0) → ((x : A) → P x → Q x) → (l : List A) → All P l → All Q l
  all_map P Q f [] a = tt
  all_map P Q f (x ∷ l) a = (f x a.0, all_map P Q f l a.1)

  pub all_append : (P : A → Type 0) (l r : List A) → All P l → All P r → All P (l ++ r)
  all_append P [] r a c = c
  all_append P (x ∷ l) r a c = (a.0, all_append P l r a.1 c)

  pub all_drop : (P : A → Type 0) (k : ℕ) (l : List A) → All P l → All P (drop k l)
  all_drop P zero l a = a
  all_drop P (suc k) [] a = tt
  all_drop P (suc k) (x ∷ l) a = all_drop P k l a.1

  pub all_same : (P : A → Type 0) (k : ℕ) (x : A) → P x → All P (replicate k x)
  all_same P zero x p = tt
  all_same P (suc k) x p = (p, all_same P k x p)

  pub all_set : (P : A → Type 0) (l : List A) (i : ℕ) (x : A) → All P l → P x → All P (set l i x)
  all_set P [] i x a p = tt
  all_set P (y ∷ l) zero x a p = (p, a.1)
  all_set P (y ∷ l) (suc i) x a p = (a.0, all_set P l i x a.1 p)
