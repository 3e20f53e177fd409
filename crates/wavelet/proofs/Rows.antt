-- The round trip: a row's bitmaps hold that row and no other, and the bitmaps of the row that bits hold are those bits.
use mathlib.Core.Path.{◌≡◌, refl, sym, ap, ap₂, ◌∙◌, subst}
use mathlib.Core.Bool.{Bool, true, false, not}
use mathlib.Core.List.{List, [], ◌∷◌, ◌++◌, map, flatten, append-nil, append_assoc}
use mathlib.Core.Logic.{inl, inr}
use Prim.Native.Nat.{ℕ, ◌+◌, ◌≤◌, ◌<◌}
use native.Mathlib.Omega.{arith}
use lib.Dec.{eqb}
use lib.ListN.{length, get_or, take, drop, replicate, length-drop, length-map, length-append, take-append-drop}
use lib.Seq.{length-take-le, take-append_seam, drop-append_seam, take-add, take-nil}
use borrow.Author.Tests.{eqb-true, eq-eqb}
use Rattle.lists.proofs.Lists.{flatten-map-append}
use Rattle.lists.proofs.Each.{all_map}
use Rattle.lists.specs.Lists.{All, filter}
use Rattle.lists.proofs.Filter.{all_filter, filter-pass, filter-fail, filter-all, filter-within}
use Rattle.bits.specs.Bits.{Bytes, unpack, byte_count, pack, padding, count}
use Rattle.bits.proofs.Bytes.{unpack-length}
use Rattle.bits.proofs.Packing.{pack-length, unpack-pack, pack-bytes, unpack-apart}
use Rattle.bits.proofs.Count.{zeros-none, none-zeros}
use Rattle.fibonacci.specs.Code.{codeword}
use Rattle.calls.proofs.Checks.{both, number_is, is-number}
use Rattle.calls.specs.Limits.{Legal}
use Rattle.wavelet.specs.Nodes.{is_prefix, Tree, leaf, node, tree, nodes}
use Rattle.wavelet.specs.Bitmaps.{bitmap, joined, bitmaps, index, need, merge, row_of_bitmaps, is_index, row_of_index}
use Rattle.wavelet.proofs.Strings.{begins-trans, begins-bit, begins-next, begins-one, begins-append, begins-by}
use Rattle.wavelet.proofs.Trees.{Under, Has, has-begins, need-none}
use Rattle.wavelet.proofs.Trees.{after_zero, zero_side_row, one_side_row, node-fits, row-length, row_has, zero-length, one-length}

-- the codeword of n begins with q
abbrev goes : ℕ → List Bool → ℕ → Bool
goes m q n = is_prefix q (codeword m n)

-- the numbers of a row of which that holds
abbrev pub at : ℕ → List Bool → List ℕ → List ℕ
at m q row = filter (goes m q) row

-- ## The two sides of a node

-- one test passes where f is false, the other where f is true
abbrev By : (ℕ → Bool) → (ℕ → Bool) → (ℕ → Bool) → ℕ → Type 0
By f g h x = (g x ≡ not (f x)) × (h x ≡ f x)

-- as many numbers pass as bits say so, and merged by the bits they are the list
abbrev Sides : (ℕ → Bool) → (ℕ → Bool) → (ℕ → Bool) → List ℕ → Type 0
Sides f g h l = (length (filter g l) ≡ count false (map f l)) × (length (filter h l) ≡ count true (map f l)) × (merge (map f l) (filter g l) (filter h l) ≡ l)

sides : (f g h : ℕ → Bool) (l : List ℕ) → All (By f g h) l → Sides f g h l
unfolding count merge
sides f g h [] a = unfold filter in (refl, refl, refl)
sides f g h (x ∷ l) a = go (f x) refl (sides f g h l a.1)
  where
    go : (v : Bool) → f x ≡ v → Sides f g h l → Sides f g h (x ∷ l)
    go false e ih =
        rw (filter-pass g x l (a.0.0 ∙ ap not e), filter-fail h x l (a.0.1 ∙ e), e) (omega arith, omega arith, ap (λ (y : List ℕ). x ∷ y) ih.2)
    go true e ih =
        rw (filter-fail g x l (a.0.0 ∙ ap not e), filter-pass h x l (a.0.1 ∙ e), e) (omega arith, omega arith, ap (λ (y : List ℕ). x ∷ y) ih.2)

-- the other way round: the bits of a merged list, and the numbers that pass
parts : (f g h : ℕ → Bool) (b : List Bool) (z o : List ℕ) → length z ≡ count false b → length o ≡ count true b
    → All (λ x. By f g h x × (f x ≡ false)) z → All (λ x. By f g h x × (f x ≡ true)) o
    → (map f (merge b z o) ≡ b) × (filter g (merge b z o) ≡ z) × (filter h (merge b z o) ≡ o)
unfolding count merge
parts f g h [] [] [] hz ho az ao = unfold filter in (refl, refl, refl)
parts f g h [] (x ∷ z) o hz ho az ao = absurd (omega arith)
parts f g h [] [] (x ∷ o) hz ho az ao = absurd (omega arith)
parts f g h (false ∷ b) [] o hz ho az ao = absurd (omega arith)
parts f g h (false ∷ b) (x ∷ z) o hz ho az ao =
    let ih = parts f g h b z o (omega arith) (omega arith) az.1 ao in
    let e = az.0.1 in (
      ap₂ (λ (v : Bool) (l : List Bool). v ∷ l) e ih.0,
      filter-pass g x (merge b z o) (az.0.0.0 ∙ ap not e) ∙ ap (λ (l : List ℕ). x ∷ l) ih.1,
      filter-fail h x (merge b z o) (az.0.0.1 ∙ e) ∙ ih.2,
    )
parts f g h (true ∷ b) z [] hz ho az ao = absurd (omega arith)
parts f g h (true ∷ b) z (x ∷ o) hz ho az ao =
    let ih = parts f g h b z o (omega arith) (omega arith) az ao.1 in
    let e = ao.0.1 in (
      ap₂ (λ (v : Bool) (l : List Bool). v ∷ l) e ih.0,
      filter-fail g x (merge b z o) (ao.0.0.0 ∙ ap not e) ∙ ih.1,
      filter-pass h x (merge b z o) (ao.0.0.1 ∙ e) ∙ ap (λ (l : List ℕ). x ∷ l) ih.2,
    )

-- the bit after p of the codeword of n
abbrev bit_after : ℕ → List Bool → ℕ → Bool
bit_after m p n = get_or (codeword m n) (length p) false

-- n is on the side of p that this bit says
abbrev pub Sided : ℕ → List Bool → ℕ → Type 0
Sided m p n = By (bit_after m p) (goes m (p ++ (false ∷ []))) (goes m (p ++ (true ∷ []))) n

sided-by : (m : ℕ) (p : List Bool) (n : ℕ) (a : Bool) → is_prefix (p ++ (a ∷ [])) (codeword m n) ≡ true → Sided m p n × (bit_after m p n ≡ a)
sided-by m p n a e = (go a e (begins-bit p (codeword m n) a e), begins-bit p (codeword m n) a e)
  where
    other : (q : List Bool) → (goes m q n ≡ true → ⊥) → (v : Bool) → goes m q n ≡ v → goes m q n ≡ false
    other q none true e = absurd (none e)
    other q none false e = e

    go : (a : Bool) → is_prefix (p ++ (a ∷ [])) (codeword m n) ≡ true → bit_after m p n ≡ a → Sided m p n
    go false e d = rw d (e, other (p ++ (true ∷ [])) (begins-one p (codeword m n) e) _ refl)
    go true e d = rw d (other (p ++ (false ∷ [])) (λ f. begins-one p (codeword m n) f e) _ refl, e)

-- so is every number whose codeword goes on after p
pub sided-longer : (m : ℕ) (p : List Bool) (n : ℕ) → is_prefix p (codeword m n) ≡ true → length p < length (codeword m n) → Sided m p n
sided-longer m p n e l = (sided-by m p n (bit_after m p n) (begins-next p (codeword m n) (bit_after m p n) e l refl)).0

-- what passes the test of a longer string passes that of a shorter one
at-below : (m : ℕ) (q p : List Bool) → is_prefix q p ≡ true → (row : List ℕ) → at m p (at m q row) ≡ at m p row
at-below m q p e = filter-within (goes m p) (goes m q) (λ n. begins-trans q p (codeword m n) e)

at_side : (m : ℕ) (p : List Bool) (a : Bool) (row : List ℕ) → at m (p ++ (a ∷ [])) (at m p row) ≡ at m (p ++ (a ∷ [])) row
at_side m p a = at-below m p (p ++ (a ∷ [])) (begins-append p (a ∷ []))

bitmap-length : (m : ℕ) (p : List Bool) (row : List ℕ) → length (bitmap m row p) ≡ length (at m p row)
unfolding bitmap
bitmap-length m p row = length-map (at m p row) (bit_after m p)

-- the numbers below a node are those on its sides, merged by its bitmap
at-sides : (m : ℕ) (p : List Bool) (row : List ℕ) → All (Sided m p) (at m p row)
    → (length (at m (p ++ (false ∷ [])) row) ≡ count false (bitmap m row p)) × (length (at m (p ++ (true ∷ [])) row) ≡ count true (bitmap m row p))
    × (merge (bitmap m row p) (at m (p ++ (false ∷ [])) row) (at m (p ++ (true ∷ [])) row) ≡ at m p row)
unfolding bitmap
at-sides m p row a =
    rw (at_side m p false row, at_side m p true row) at
    (sides (bit_after m p) (goes m (p ++ (false ∷ []))) (goes m (p ++ (true ∷ []))) (at m p row) a)

-- ## At a node

pub joined-node : (m : ℕ) (p : List Bool) (z o : Tree) (row : List ℕ) → joined m (node p z o) row ≡ bitmap m row p ++ (joined m z row ++ joined m o row)
unfolding joined nodes flatten
joined-node m p z o row = ap (λ (l : List Bool). bitmap m row p ++ l) (flatten-map-append (bitmap m row) (nodes z) (nodes o))

module _ (m : ℕ) (q p : List Bool) (z o : Tree) (u : Under m q (node p z o)) where
  zero-sided : (n : ℕ) → Has z n → Sided m p n × (bit_after m p n ≡ false)
  zero-sided n h = sided-by m p n false (has-begins m (p ++ (false ∷ [])) z n u.1 h).1

  one-sided : (n : ℕ) → Has o n → Sided m p n × (bit_after m p n ≡ true)
  one-sided n h = sided-by m p n true (has-begins m (p ++ (true ∷ [])) o n u.2 h).1

  has-sided : (n : ℕ) → Has (node p z o) n → Sided m p n
  has-sided n (inl h) = (zero-sided n h).0
  has-sided n (inr h) = (one-sided n h).0

  -- what begins with q begins with p, as no number of the tree leaves the way between
  at-node : (row : List ℕ) → All (Has (node p z o)) (at m q row) → at m p row ≡ at m q row
  at-node row a =
      sym (at-below m q p u.0 row)
      ∙ filter-all (goes m p) (at m q row)
      (all_map (Has (node p z o)) _ (λ n h. (has-begins m p (node p z o) n (begins-by p [] p (append-nil p), u.1, u.2) h).1) (at m q row) a)

  -- the numbers of the tree on its two sides
  zero_has : (n : ℕ) → Has (node p z o) n × (is_prefix (p ++ (false ∷ [])) (codeword m n) ≡ true) → Has z n
  zero_has n (inl h, e) = h
  zero_has n (inr h, e) = absurd (begins-one p (codeword m n) e (has-begins m (p ++ (true ∷ [])) o n u.2 h).1)

  one_has : (n : ℕ) → Has (node p z o) n × (is_prefix (p ++ (true ∷ [])) (codeword m n) ≡ true) → Has o n
  one_has n (inl h, e) = absurd (begins-one p (codeword m n) (has-begins m (p ++ (false ∷ [])) z n u.1 h).1 e)
  one_has n (inr h, e) = h

  all-side : (a : Bool) (P : ℕ → Type 0) → ((n : ℕ) → Has (node p z o) n × (is_prefix (p ++ (a ∷ [])) (codeword m n) ≡ true) → P n)
      → (row : List ℕ) → All (Has (node p z o)) (at m q row) → All P (at m (p ++ (a ∷ [])) row)
  all-side a P f row h =
      subst (All P) (at-below m q (p ++ (a ∷ [])) (begins-trans q p (p ++ (a ∷ [])) u.0 (begins-append p (a ∷ []))) row)
      (all_map _ P f (at m (p ++ (a ∷ [])) (at m q row)) (all_filter (Has (node p z o)) (goes m (p ++ (a ∷ []))) (at m q row) h))

  -- what bits hold below a node, found in a row that holds it
  row-parts : (k : ℕ) (bits : List Bool) → need (node p z o) k bits ≤ length bits → (row : List ℕ) → at m q row ≡ row_of_bitmaps (node p z o) k bits
      → (bitmap m row p ≡ take k bits) × (at m (p ++ (false ∷ [])) row ≡ zero_side_row z k bits) × (at m (p ++ (true ∷ [])) row ≡ one_side_row z o k bits)
  unfolding row_of_bitmaps bitmap
  row-parts k bits h row e =
      let fits = node-fits p z o k bits h in
      let r : at m p row ≡ merge (take k bits) (zero_side_row z k bits) (one_side_row z o k bits) =
      at-node row (subst (All (Has (node p z o))) (sym e) (row_has (node p z o) k bits h)) ∙ e in
      let s = parts (bit_after m p) (goes m (p ++ (false ∷ []))) (goes m (p ++ (true ∷ [])))
      (take k bits) (zero_side_row z k bits) (one_side_row z o k bits) (zero-length m q p z o k bits u h) (one-length m q p z o k bits u h)
      (all_map (Has z) _ zero-sided (zero_side_row z k bits) (row_has z _ (drop k bits) fits.1))
      (all_map (Has o) _ one-sided (one_side_row z o k bits) (row_has o _ (after_zero z k bits) fits.2)) in (
        ap (map (bit_after m p)) r ∙ s.0,
        sym (at_side m p false row) ∙ ap (at m (p ++ (false ∷ []))) r ∙ s.1,
        sym (at_side m p true row) ∙ ap (at m (p ++ (true ∷ []))) r ∙ s.2,
      )

-- ## From bits to a row and back

pub joined-row : (m : ℕ) (q : List Bool) (t : Tree) (k : ℕ) (bits : List Bool) → Under m q t → need t k bits ≤ length bits
    → (row : List ℕ) → at m q row ≡ row_of_bitmaps t k bits → joined m t row ≡ take (need t k bits) bits
unfolding need
joined-row m q (leaf n) k bits u h row e = unfold joined nodes flatten in refl
joined-row m q (node p z o) k bits u h row e =
    let fits = node-fits p z o k bits h in
    let s = row-parts m q p z o u k bits h row e in
    let a : ℕ = need z (count false (take k bits)) (drop k bits) in
    let c : ℕ = need o (count true (take k bits)) (after_zero z k bits) in
    let on-zero : joined m z row ≡ take a (drop k bits) = joined-row m (p ++ (false ∷ [])) z _ (drop k bits) u.1 fits.1 row s.1 in
    let on_one : joined m o row ≡ take c (drop a (drop k bits)) = joined-row m (p ++ (true ∷ [])) o _ (after_zero z k bits) u.2 fits.2 row s.2 in
    joined-node m p z o row ∙ ap₂ (λ (x y : List Bool). x ++ y) s.0 (ap₂ (λ (x y : List Bool). x ++ y) on-zero on_one)
    ∙ sym (take-add k (a + c) bits ∙ ap (λ (l : List Bool). take k bits ++ l) (take-add a c (drop k bits)))

-- a row with no number of a tree has no bits of it
pub joined-none : (m : ℕ) (q : List Bool) (t : Tree) → Under m q t → (row : List ℕ) → at m q row ≡ [] → joined m t row ≡ []
joined-none m q t u row e =
    let h : need t 0 [] ≤ 0 = omega (arith, need-none t []) in
    joined-row m q t 0 [] u h row (e ∙ none (row_of_bitmaps t 0 []) (row-length t 0 [] h)) ∙ take-nil (need t 0 [])
  where
    none : (l : List ℕ) → length l ≡ 0 → [] ≡ l
    none [] e = refl
    none (x ∷ l) e = absurd (omega arith)

need-node : (p : List Bool) (z o : Tree) (b t : List Bool)
    → need (node p z o) (length b) (b ++ t) ≡ length b + (need z (count false b) t + need o (count true b) (drop (need z (count false b) t) t))
unfolding need
need-node p z o b t = rw (take-append_seam b t, drop-append_seam b t)

row-node : (p : List Bool) (z o : Tree) (b t : List Bool)
    → row_of_bitmaps (node p z o) (length b) (b ++ t) ≡ merge b (row_of_bitmaps z (count false b) t) (row_of_bitmaps o (count true b) (drop (need z (count false b) t) t))
unfolding row_of_bitmaps
row-node p z o b t = rw (take-append_seam b t, drop-append_seam b t)

-- ## From a row to bits and back

pub row-joined : (m : ℕ) (q : List Bool) (t : Tree) → Under m q t → (row : List ℕ) → All (Has t) (at m q row) → (rest : List Bool)
    → (need t (length (at m q row)) (joined m t row ++ rest) ≡ length (joined m t row)) × (row_of_bitmaps t (length (at m q row)) (joined m t row ++ rest) ≡ at m q row)
row-joined m q (leaf x) u row a rest = unfold need row_of_bitmaps joined nodes flatten in (refl, same (at m q row) a)
  where
    same : (l : List ℕ) → All (λ n. n ≡ x) l → replicate (length l) x ≡ l
    same [] a = refl
    same (n ∷ l) a = ap₂ (λ (y : ℕ) (r : List ℕ). y ∷ r) (sym a.0) (same l a.1)
row-joined m q (node p z o) u row a rest =
    let r : at m p row ≡ at m q row = at-node m q p z o u row a in
    let s = at-sides m p row (subst (All (Sided m p)) (sym r) (all_map (Has (node p z o)) (Sided m p) (has-sided m q p z o u) (at m q row) a)) in
    let iz = row-joined m (p ++ (false ∷ [])) z u.1 row (all-side m q p z o u false (Has z) (zero_has m q p z o u) row a) (joined m o row ++ rest) in
    let io = row-joined m (p ++ (true ∷ [])) o u.2 row (all-side m q p z o u true (Has o) (one_has m q p z o u) row a) rest in
    let b : List Bool = bitmap m row p in
    let t : List Bool = joined m z row ++ (joined m o row ++ rest) in
    let long : length b ≡ length (at m q row) = bitmap-length m p row ∙ ap length r in
    let bits : joined m (node p z o) row ++ rest ≡ b ++ t =
    ap (λ (l : List Bool). l ++ rest) (joined-node m p z o row) ∙ append_assoc b (joined m z row ++ joined m o row) rest
    ∙ ap (λ (l : List Bool). b ++ l) (append_assoc (joined m z row) (joined m o row) rest) in
    let nz : need z (count false b) t ≡ length (joined m z row) = rw s.0 at iz.0 in
    let after : drop (need z (count false b) t) t ≡ joined m o row ++ rest =
    ap (λ (n : ℕ). drop n t) nz ∙ drop-append_seam (joined m z row) (joined m o row ++ rest) in
    let no : need o (count true b) (drop (need z (count false b) t) t) ≡ length (joined m o row) = rw (after, ← s.1) io.0 in (
      ap₂ (need (node p z o)) (sym long) bits ∙ need-node p z o b t
          ∙ omega (arith, ap length (joined-node m p z o row), length-append b (joined m z row ++ joined m o row), length-append (joined m z row) (joined m o row)),
      ap₂ (row_of_bitmaps (node p z o)) (sym long) bits ∙ row-node p z o b t
          ∙ ap₂ (merge b) (rw s.0 at iz.1) (rw (after, ← s.1) io.1) ∙ s.2 ∙ r,
    )

-- ## The index

-- the packing of the first bits of bytes that hold only zeros after them, and no byte more
pack-front : (s : List ℕ) (n : ℕ) → Bytes s → byte_count n ≡ length s → count true (drop n (unpack s)) ≡ 0 → pack (take n (unpack s)) ≡ s
unfolding padding
pack-front s n bytes e c =
    let b : List Bool = take n (unpack s) in
    let long : length b ≡ n = length-take-le n (unpack s) (omega (arith, unpack-length s)) in
    let fill : length (drop n (unpack s)) ≡ padding (length b) = omega (arith, length-drop n (unpack s), unpack-length s) in
    unpack-apart (pack b) s (pack-bytes b) bytes (
    unpack-pack b
    ∙ ap (λ (l : List Bool). b ++ l) (sym (none-zeros (drop n (unpack s)) c ∙ ap (λ (k : ℕ). replicate k false) fill)) ∙ take-append-drop n (unpack s))

-- every codeword begins with nothing
pub at_all : (m : ℕ) (row : List ℕ) → at m [] row ≡ row
at_all m row = filter-all (goes m []) row (all row)
  where
    all : (row : List ℕ) → All (λ n. goes m [] n ≡ true) row
    all [] = tt
    all (n ∷ row) = (unfold is_prefix in refl, all row)

-- with a tree that has the numbers 1 .. N and no others
module _ (m N : ℕ) (u : Under m [] (tree m N)) (has : (n : ℕ) → 1 ≤ n → n ≤ N → Has (tree m N) n) (only : (n : ℕ) → Has (tree m N) n → (1 ≤ n) × (n ≤ N)) where
  -- the bitmaps of a row, with anything after them
  row_is : (row : List ℕ) → Legal N row → (rest : List Bool)
      → (need (tree m N) (length row) (bitmaps m N row ++ rest) ≡ length (bitmaps m N row)) × (row_of_bitmaps (tree m N) (length row) (bitmaps m N row ++ rest) ≡ row)
  unfolding bitmaps
  row_is row legal rest =
      let a : All (Has (tree m N)) row = all_map _ (Has (tree m N)) (λ n e. has n (number_is N n e).0 (number_is N n e).1) row legal in
      rw (at_all m row) at (row-joined m [] (tree m N) u row (subst (All (Has (tree m N))) (sym (at_all m row)) a) rest)

  pub index_row : (row : List ℕ) → Legal N row → (is_index m N (length row) (index m N row) ≡ true) × (row_of_index m N (length row) (index m N row) ≡ row)
  unfolding index is_index row_of_index
  index_row row legal =
      let b : List Bool = bitmaps m N row in
      let zeros : List Bool = replicate (padding (length b)) false in
      let h = row_is row legal zeros in
      let few : byte_count (length b) ≡ length (pack b) = sym (pack-length b) in
      let none : count true (drop (length b) (b ++ zeros)) ≡ 0 = ap (count true) (drop-append_seam b zeros) ∙ zeros-none (padding (length b)) in
      rw (unpack-pack b, h.0, eq-eqb _ _ few, eq-eqb _ _ none) (refl, h.1)

  pub row_index : (k : ℕ) (s : List ℕ) → Bytes s → is_index m N k s ≡ true
      → (length (row_of_index m N k s) ≡ k) × Legal N (row_of_index m N k s) × (index m N (row_of_index m N k s) ≡ s)
  unfolding index bitmaps is_index row_of_index
  row_index k s bytes e =
      let d : ℕ = need (tree m N) k (unpack s) in
      let c = both (eqb (byte_count d) (length s)) (eqb (count true (drop d (unpack s))) 0) e in
      let few : byte_count d ≡ length s = eqb-true _ _ c.0 in
      let fits : d ≤ length (unpack s) = omega (arith, unpack-length s) in
      let row : List ℕ = row_of_bitmaps (tree m N) k (unpack s) in (
        row-length (tree m N) k (unpack s) fits,
        all_map (Has (tree m N)) _ (λ n h. is-number N n (only n h).0 (only n h).1) row (row_has (tree m N) k (unpack s) fits),
        ap pack (joined-row m [] (tree m N) k (unpack s) u fits row (at_all m row)) ∙ pack-front s d bytes few (eqb-true _ _ c.1),
      )

  pub one_row : (k : ℕ) (s row : List ℕ) → Legal N row → length row ≡ k → index m N row ≡ s → row ≡ row_of_index m N k s
  one_row k s row legal l e = sym (index_row row legal).1 ∙ ap₂ (row_of_index m N) l e
