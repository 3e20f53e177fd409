-- The visits of a number, counted in the tree: the nodes that begin its codeword.
use mathlib.Core.Path.{◌≡◌, refl, sym, ap}
use mathlib.Core.Bool.{Bool, true, true≢false}
use mathlib.Core.HLevel.{⊥_prop}
use mathlib.Core.Logic.{⊎_elim, ◌↔◌, ∥∥₁_elim}
use mathlib.Core.List.Memᴰ
use mathlib.Core.List.{List, [], ◌∷◌, map, Mem, Memᴰ}
use mathlib.Core.List.Pairwise
use mathlib.Core.List.{Mem-prop, Nodup, not-mem-nil, Nodup-cons}
use Prim.Native.Nat.{ℕ, ◌≤◌}
use native.Mathlib.Omega.{arith}
use Rattle.lists.specs.Lists.{filter}
use Rattle.lists.proofs.Members.{same-members, filter-in, in-filter, filter-once, map-once}
use Rattle.bits.specs.Bits.{same_bit}
use Rattle.fibonacci.specs.Code.{codeword}
use Rattle.calls.proofs.Checks.{both}
use Rattle.wavelet.specs.Nodes.{is_prefix, is_node, tree, nodes, prefixes, visits}
use Rattle.wavelet.specs.Leaves.{visits_in}
use Rattle.wavelet.proofs.Strings.{is_same, is-self}
use Rattle.wavelet.proofs.Nodes.{tree-under, nodes_are, nodes_once}

-- the beginnings of a string are what begins it, each once
prefix-begins : (b p : List Bool) → Memᴰ p (prefixes b) → is_prefix p b ≡ true
unfolding prefixes is_prefix
prefix-begins [] p i = ap (λ (x : List Bool). is_prefix x []) (Memᴰ.eq_of_singleton i)
prefix-begins (a ∷ b) p i =
    ⊎_elim
    (λ (e : p ≡ []). ap (λ (x : List Bool). is_prefix x (a ∷ b)) e)
    (λ (j : Memᴰ p (map (λ r. a ∷ r) (prefixes b))).
    let r = Memᴰ.of_map (λ r. a ∷ r) (prefixes b) j in
    rw (← r.2, is-self) (prefix-begins b r.0 r.1))
    (Memᴰ.cases_cons i)

begins-prefix : (p b : List Bool) → is_prefix p b ≡ true → Memᴰ p (prefixes b)
unfolding prefixes is_prefix
begins-prefix [] [] e = Memᴰ.head refl
begins-prefix [] (a ∷ b) e = Memᴰ.head refl
begins-prefix (c ∷ p) [] e = absurd (true≢false (sym e))
begins-prefix (c ∷ p) (a ∷ b) e =
    let h = both (same_bit c a) (is_prefix p b) e in
    rw (is_same c a h.0) (Memᴰ.tail (Memᴰ.map (λ r. a ∷ r) (begins-prefix p b h.1)))

prefixes-once : (b : List Bool) → Nodup (prefixes b)
unfolding prefixes Nodup-cons
prefixes-once [] = Nodup-cons.1 (not-mem-nil, Pairwise.nil)
prefixes-once (a ∷ b) =
    Nodup-cons.1 (
      λ (i : Mem [] (map (λ p. a ∷ p) (prefixes b))).
          ∥∥₁_elim i ⊥_prop (λ j.
          let r = Memᴰ.of_map (λ p. a ∷ p) (prefixes b) j in
          let z : ◌≡◌ {A = ℕ} 0 1 = cc r.2 in
          omega arith),
      map-once (λ p. a ∷ p) (λ x y e. cc e) (prefixes b) (prefixes-once b),
    )

-- so the nodes among the beginnings of a codeword are the tree's nodes that begin it
module _ (m N : ℕ) (p : 1 ≤ m) (h : 1 ≤ N) (n : ℕ) where
  same : (x : List Bool) → Mem x (filter (is_node m N) (prefixes (codeword m n))) ↔ Mem x (filter (λ r. is_prefix r (codeword m n)) (nodes (tree m N)))
  same x =
      let are = nodes_are m N p h x in (
        λ (i : Mem x (filter (is_node m N) (prefixes (codeword m n)))).
            ∥∥₁_elim i Mem-prop (λ j.
            let k = filter-in (is_node m N) x (prefixes (codeword m n)) j in
            ∥∥₁_elim (are.1 k.1) Mem-prop (λ l. ∣ in-filter (λ r. is_prefix r (codeword m n)) x (nodes (tree m N)) l (prefix-begins (codeword m n) x k.0) ∣₁)),
        λ (i : Mem x (filter (λ r. is_prefix r (codeword m n)) (nodes (tree m N)))).
            ∥∥₁_elim i Mem-prop (λ j.
            let k = filter-in (λ r. is_prefix r (codeword m n)) x (nodes (tree m N)) j in
            ∣ in-filter (is_node m N) x (prefixes (codeword m n)) (begins-prefix x (codeword m n) k.1) (are.0 ∣ k.0 ∣₁) ∣₁),
      )

  pub visits-tree : visits m N n ≡ visits_in m (tree m N) n
  unfolding visits
  visits-tree =
      same-members _ _ (filter-once (is_node m N) (prefixes (codeword m n)) (prefixes-once (codeword m n)))
      (filter-once (λ r. is_prefix r (codeword m n)) (nodes (tree m N)) (nodes_once m [] (tree m N) (tree-under m N p h)))
      same
