-- The nodes of the tree of 1 .. N: the strings after which both a 0 and a 1 go on; there are N - 1, the digits of the codewords of 2 .. N.
use mathlib.Core.Path.{◌≡◌, refl, sym, ap, ◌∙◌}
use mathlib.Core.Bool.{Bool, true, false, ◌&&◌, Bool-set, true≢false, false≢true}
use mathlib.Core.HLevel.{⊥_prop}
use mathlib.Core.List.{List, [], ◌∷◌, ◌++◌, append_assoc, append-nil}
use mathlib.Core.List.Memᴰ
use mathlib.Core.List.{Mem, Memᴰ}
use mathlib.Core.List.Pairwise
use mathlib.Core.List.{Nodup, Nodup-cons, Nodup-append}
use mathlib.Core.Logic.{◌⊎◌, inl, inr, ⊎_elim, ◌↔◌, ∥∥₁_elim}
use Prim.Native.Nat.{ℕ, zero, suc, ◌+◌, ◌-◌, ◌≤◌, ◌<◌}
use native.Mathlib.Omega.{arith}
use native.Mathlib.Decide.{dec_le}
use lib.ListN.{length, get_or, take, drop, length-append, replicate-append-replicate, get_or-append}
use lib.Seq.{take_at}
use Rattle.lists.specs.Lists.{values_from, filter}
use Rattle.lists.proofs.Members.{all_in}
use Rattle.bits.specs.Bits.{same_bit, bit_value}
use Rattle.fibonacci.specs.Code.{ones, runs, Codeword, value, number, codeword}
use Rattle.calls.proofs.Checks.{both}
use Rattle.fibonacci.proofs.Runs.{few_ones, runs-cut}
use Rattle.fibonacci.proofs.Numbers.{first-rises, first_pos, value-append, number_one, form-codeword, codeword-good}
use Rattle.wavelet.specs.Nodes.{is_prefix, begins_some, is_node, Tree, leaf, node, prune, tree, nodes}
use Rattle.wavelet.specs.Leaves.{Describes}
use Rattle.wavelet.proofs.Strings.{begins-rest, begins-append, begins-bit, begins-next, begins-front, begins-one}
use Rattle.wavelet.proofs.Trees.{Under, Has, has-begins, nodes-begin}
use Rattle.wavelet.proofs.Pruned.{goes_some, goes_on, goes-codeword, runs-before, next-number, next-least}
use Rattle.wavelet.proofs.Pruned.{cursor-root, cursor-node, cursor-number, cursor-high, cursor-full, high-only, full-only, cursor-longer}

-- ## How many of the numbers j, j + 1, .. , N of them, pass a test

abbrev passing : (ℕ → Bool) → ℕ → ℕ → ℕ
passing t j N = length (filter t (values_from (λ n. n) j N))

passing_step : (t : ℕ → Bool) (j N : ℕ) → passing t j (suc N) ≡ bit_value (t j) + passing t (suc j) N
unfolding filter
passing_step t j N = go (t j) refl
  where
    go : (v : Bool) → t j ≡ v → passing t j (suc N) ≡ bit_value v + passing t (suc j) N
    go true e = rw (e, filter) (omega arith)
    go false e = rw (e, filter) (omega arith)

-- what passes a test passes just one of two others
passing-split : (t u v : ℕ → Bool) (j N : ℕ) → ((n : ℕ) → j ≤ n → n < j + N → bit_value (t n) ≡ bit_value (u n) + bit_value (v n))
    → passing t j N ≡ passing u j N + passing v j N
unfolding filter
passing-split t u v j zero f = refl
passing-split t u v j (suc N) f =
    omega (
      arith,
      passing_step t j N,
      passing_step u j N,
      passing_step v j N,
      f j (omega arith) (omega arith),
      passing-split t u v (suc j) N (λ n a b. f n (omega arith) (omega arith)),
    )

-- all of them, none, or one
passing-all : (t : ℕ → Bool) (j N : ℕ) → ((n : ℕ) → t n ≡ true) → passing t j N ≡ N
unfolding filter
passing-all t j zero f = refl
passing-all t j (suc N) f = omega (arith, passing_step t j N, ap bit_value (f j), passing-all t (suc j) N f)

passing-none : (t : ℕ → Bool) (j N : ℕ) → ((n : ℕ) → j ≤ n → n < j + N → t n ≡ true → ⊥) → passing t j N ≡ 0
unfolding filter
passing-none t j zero f = refl
passing-none t j (suc N) f = go (t j) refl (passing-none t (suc j) N (λ n a b. f n (omega arith) (omega arith)))
  where
    go : (v : Bool) → t j ≡ v → passing t (suc j) N ≡ 0 → passing t j (suc N) ≡ 0
    go true e ih = absurd (f j (omega arith) (omega arith) e)
    go false e ih = omega (arith, passing_step t j N, ap bit_value e)

passing-one : (t : ℕ → Bool) (j N c : ℕ) → j ≤ c → c < j + N → t c ≡ true → ((n : ℕ) → j ≤ n → n < j + N → t n ≡ true → n ≡ c) → passing t j N ≡ 1
passing-one t j zero c a b e f = absurd (omega arith)
passing-one t j (suc N) c a b e f = go (t j) refl (λ l. passing-one t (suc j) N c l (omega arith) e (λ n x y. f n (omega arith) (omega arith)))
  where
    go : (v : Bool) → t j ≡ v → (suc j ≤ c → passing t (suc j) N ≡ 1) → passing t j (suc N) ≡ 1
    go true d ih =
        let none : passing t (suc j) N ≡ 0 =
        passing-none t (suc j) N (λ n x y z. omega (arith, f n (omega arith) (omega arith) z, f j (omega arith) (omega arith) d)) in
        omega (arith, passing_step t j N, ap bit_value d)
    go false d ih =
        elim (dec_le c j) [
          | yes l ↦ let s : c ≡ j = omega arith in absurd (true≢false (sym e ∙ ap t s ∙ d))
          | no l ↦ omega (arith, passing_step t j N, ap bit_value d, ih (omega arith))
        ]

-- a string that goes on goes on with one bit
begins-split : (q b : List Bool) → (is_prefix q b ≡ true → length q < length b)
    → bit_value (is_prefix q b) ≡ bit_value (is_prefix (q ++ (false ∷ [])) b) + bit_value (is_prefix (q ++ (true ∷ [])) b)
unfolding is_prefix
begins-split [] [] f = absurd (omega (arith, f refl))
begins-split [] (false ∷ b) f = refl
begins-split [] (true ∷ b) f = refl
begins-split (a ∷ q) [] f = refl
begins-split (a ∷ q) (c ∷ b) f = go (same_bit a c) f (begins-split q b)
  where
    go : (v : Bool) → ((v && is_prefix q b) ≡ true → suc (length q) < suc (length b))
        → ((is_prefix q b ≡ true → length q < length b) → bit_value (is_prefix q b) ≡ bit_value (is_prefix (q ++ (false ∷ [])) b) + bit_value (is_prefix (q ++ (true ∷ [])) b))
        → bit_value (v && is_prefix q b) ≡ bit_value (v && is_prefix (q ++ (false ∷ [])) b) + bit_value (v && is_prefix (q ++ (true ∷ [])) b)
    go true f ih = ih (λ e. omega (arith, f e))
    go false f ih = refl

-- ## What stands in the tree

-- the tree after q: all its strings begin with q, its numbers are those of 1 .. N whose codewords do, and its nodes are one fewer
record Grown (m N : ℕ) (q : List Bool) (t : Tree) : Type 0 where
  under : Under m q t
  has : (n : ℕ) → 1 ≤ n → n ≤ N → is_prefix q (codeword m n) ≡ true → Has t n
  only : (n : ℕ) → Has t n → n ≤ N
  counted : suc (length (nodes t)) ≡ passing (λ n. is_prefix q (codeword m n)) 1 N

grown-leaf : (m N : ℕ) (q : List Bool) (c : ℕ) → 1 ≤ c → c ≤ N → is_prefix q (codeword m c) ≡ true
    → ((n : ℕ) → 1 ≤ n → n ≤ N → is_prefix q (codeword m n) ≡ true → n ≡ c) → Grown m N q (leaf c)
unfolding nodes
grown-leaf m N q c a b e f =
    record {
      under = (a, e);
      has = f;
      only = λ n i. omega arith;
      counted = sym (passing-one (λ n. is_prefix q (codeword m n)) 1 N c a (omega arith) e (λ n x y. f n x (omega arith)));
    }

grown-node : (m N : ℕ) (q : List Bool) (z o : Tree) → ((n : ℕ) → 1 ≤ n → is_prefix q (codeword m n) ≡ true → length q < length (codeword m n))
    → Grown m N (q ++ (false ∷ [])) z → Grown m N (q ++ (true ∷ [])) o → Grown m N q (node q z o)
unfolding nodes
grown-node m N q z o longer gz go =
    record {
      under = (rw append-nil at (begins-append q []), gz.under, go.under);
      has = λ n a b e. side n a b e (get_or (codeword m n) (length q) false) refl;
      only = λ n. ⊎_elim (gz.only n) (go.only n);
      counted = omega (
        arith,
        length-append (nodes z) (nodes o),
        gz.counted,
        go.counted,
        passing-split (λ n. is_prefix q (codeword m n)) (λ n. is_prefix (q ++ (false ∷ [])) (codeword m n)) (λ n. is_prefix (q ++ (true ∷ [])) (codeword m n)) 1 N
            (λ n a b. begins-split q (codeword m n) (longer n a)),
      );
    }
  where
    side : (n : ℕ) → 1 ≤ n → n ≤ N → is_prefix q (codeword m n) ≡ true → (v : Bool) → get_or (codeword m n) (length q) false ≡ v → Has z n ⊎ Has o n
    side n a b e false d = inl (gz.has n a b (begins-next q (codeword m n) false e (longer n a e) d))
    side n a b e true d = inr (go.has n a b (begins-next q (codeword m n) true e (longer n a e) d))

-- d is more than the bits that are left
grown : (d : ℕ) {m N f : ℕ} {q : List Bool} {s w r c : ℕ} → f < d → Describes m N f q s w r c → Grown m N q (prune m N f q)
grown zero b a = absurd (omega arith)
grown (suc d) {m} {N} {f} {q} {s} {w} {r} {c} b a =
    elim (dec_le m r) [
      | yes full ↦ rw (cursor-full a full) (ends (λ n i l e. full-only a full n i e))
      | no low ↦
          elim (dec_le w N) [
            | yes h ↦
                let k = cursor-node a (omega arith) h in
                let less : k.g < d = omega (arith, k.fuel_is) in
                rw k.tree_is (grown-node m N q _ _ (cursor-longer a (omega arith)) (grown d less k.zero_side) (grown d less k.one_side))
            | no h ↦ rw (cursor-high a (omega arith)) (ends (high-only a (omega arith)))
          ]
    ]
  where
    ends : ((n : ℕ) → 1 ≤ n → n ≤ N → is_prefix q (codeword m n) ≡ true → n ≡ c) → Grown m N q (leaf c)
    ends only = let x = cursor-number a in grown-leaf m N q c x.0 a.small x.1 only

pub cursor-under : {m N f : ℕ} {q : List Bool} {s w r c : ℕ} → Describes m N f q s w r c → Under m q (prune m N f q)
cursor-under {f = f} a = (grown (suc f) (omega arith) a).under

tree-grown : (m N : ℕ) → 1 ≤ m → 1 ≤ N → Grown m N [] (tree m N)
unfolding tree
tree-grown m N p h = grown (suc (m + N)) (omega arith) (cursor-root m N p h)

pub tree-under : (m N : ℕ) → 1 ≤ m → 1 ≤ N → Under m [] (tree m N)
tree-under m N p h = (tree-grown m N p h).under

pub tree-has : (m N : ℕ) → 1 ≤ m → 1 ≤ N → (n : ℕ) → 1 ≤ n → n ≤ N → Has (tree m N) n
unfolding is_prefix
tree-has m N p h n a b = (tree-grown m N p h).has n a b refl

pub tree-only : (m N : ℕ) → 1 ≤ m → 1 ≤ N → (n : ℕ) → Has (tree m N) n → (1 ≤ n) × (n ≤ N)
tree-only m N p h n e =
    let g = tree-grown m N p h in
    ((has-begins m [] (tree m N) n g.under e).0, g.only n e)

-- ## How many nodes there are

pub node_count : (m N : ℕ) → 1 ≤ m → 1 ≤ N → suc (length (nodes (tree m N))) ≡ N
unfolding is_prefix
node_count m N p h = (tree-grown m N p h).counted ∙ passing-all (λ n. is_prefix [] (codeword m n)) 1 N (λ n. refl)

-- ## Which they are

node-both : (m N : ℕ) (p : List Bool) → is_node m N p ≡ true → (begins_some m N (p ++ (false ∷ [])) ≡ true) × (begins_some m N (p ++ (true ∷ [])) ≡ true)
unfolding is_node
node-both m N p e = both (begins_some m N (p ++ (false ∷ []))) (begins_some m N (p ++ (true ∷ []))) e

both-node : (m N : ℕ) (p : List Bool) → begins_some m N (p ++ (false ∷ [])) ≡ true → begins_some m N (p ++ (true ∷ [])) ≡ true → is_node m N p ≡ true
unfolding is_node
both-node m N p e f = rw (e, f)

-- some number stands in every tree, and so its string goes on
some_number : (t : Tree) → (n : ℕ) × Has t n
some_number (leaf x) = (x, refl)
some_number (node p z o) = let n = some_number z in (n.0, inl n.1)

under_goes : (m N : ℕ) (q : List Bool) (t : Tree) → Under m q t → ((n : ℕ) → Has t n → n ≤ N) → begins_some m N q ≡ true
under_goes m N q t u only =
    let n = some_number t in
    let k = has-begins m q t n.0 u n.1 in
    goes_on m N q n.0 k.0 (only n.0 n.1) k.1

-- a node of the tree goes on with both bits
listed-node : (m N : ℕ) (q : List Bool) (t : Tree) → Under m q t → ((n : ℕ) → Has t n → n ≤ N) → (p : List Bool) → Memᴰ p (nodes t) → is_node m N p ≡ true
unfolding nodes
listed-node m N q (leaf x) u only p i = absurd (Memᴰ.not-nil i)
listed-node m N q (node x z o) u only p i =
    let x0 : List Bool = x ++ (false ∷ []) in
    let x1 : List Bool = x ++ (true ∷ []) in
    let zs : (n : ℕ) → Has z n → n ≤ N = λ n h. only n (inl h) in
    let os : (n : ℕ) → Has o n → n ≤ N = λ n h. only n (inr h) in
    ⊎_elim
    (λ (e : p ≡ x). rw e (both-node m N x (under_goes m N x0 z u.1 zs) (under_goes m N x1 o u.2 os)))
    (λ (j : Memᴰ p (nodes z ++ nodes o)).
    ⊎_elim (listed-node m N x0 z u.1 zs p) (listed-node m N x1 o u.2 os p) (Memᴰ.append_cases (nodes z) j))
    (Memᴰ.cases_cons i)

-- two strings part in one place only
begins-at : (x a : List Bool) (i : ℕ) → is_prefix x a ≡ true → i < length x → get_or a i false ≡ get_or x i false
begins-at x a i e h =
    ap (λ (l : List Bool). get_or l i false) (sym (begins-rest x a e)) ∙ get_or-append x (drop (length x) a) false i h

begins-same : (p x a : List Bool) → is_prefix p a ≡ true → is_prefix x a ≡ true → length p ≡ length x → p ≡ x
begins-same p x a e f l =
    sym (take_at p (drop (length p) a) (length p) refl) ∙ ap (take (length p)) (begins-rest p a e ∙ sym (begins-rest x a f))
    ∙ take_at x (drop (length x) a) (length p) (sym l)

part-below : (p x a b : List Bool) (u v : Bool) → (u ≡ v → ⊥) → is_prefix (p ++ (u ∷ [])) a ≡ true → is_prefix (p ++ (v ∷ [])) b ≡ true
    → is_prefix x a ≡ true → is_prefix x b ≡ true → length x ≤ length p
part-below p x a b u v n ea eb fa fb =
    elim (dec_le (length x) (length p)) [
      | yes l ↦ l
      | no l ↦
          let h : length p < length x = omega arith in
          absurd (n (sym (begins-bit p a u ea) ∙ begins-at x a (length p) fa h ∙ sym (begins-at x b (length p) fb h) ∙ begins-bit p b v eb))
    ]

part-once : (p x a b : List Bool) (u v c d : Bool) → (u ≡ v → ⊥) → (c ≡ d → ⊥) → is_prefix (p ++ (u ∷ [])) a ≡ true → is_prefix (p ++ (v ∷ [])) b ≡ true
    → is_prefix (x ++ (c ∷ [])) a ≡ true → is_prefix (x ++ (d ∷ [])) b ≡ true → p ≡ x
part-once p x a b u v c d n k ea eb fa fb =
    let pa = begins-front p a u ea in
    let xa = begins-front x a c fa in
    let down = part-below p x a b u v n ea eb xa (begins-front x b d fb) in
    let up = part-below x p a b c d k fa fb pa (begins-front p b v eb) in
    begins-same p x a pa xa (omega arith)

-- where the codewords of two of a tree's numbers part, there is a node
node-listed : (m : ℕ) (q : List Bool) (t : Tree) → Under m q t → (p : List Bool) (a b : ℕ) → Has t a → Has t b
    → is_prefix (p ++ (false ∷ [])) (codeword m a) ≡ true → is_prefix (p ++ (true ∷ [])) (codeword m b) ≡ true → Memᴰ p (nodes t)
unfolding nodes
node-listed m q (leaf x) u p a b i j e f =
    let same : codeword m b ≡ codeword m a = ap (codeword m) (j ∙ sym i) in
    absurd (begins-one p (codeword m a) e (rw same at f))
node-listed m q (node x z o) u p a b (inl i) (inl j) e f =
    Memᴰ.tail (Memᴰ.append_left (nodes o) (node-listed m (x ++ (false ∷ [])) z u.1 p a b i j e f))
node-listed m q (node x z o) u p a b (inr i) (inr j) e f =
    Memᴰ.tail (Memᴰ.append_right (nodes z) (node-listed m (x ++ (true ∷ [])) o u.2 p a b i j e f))
node-listed m q (node x z o) u p a b (inl i) (inr j) e f =
    Memᴰ.head (
    part-once p x (codeword m a) (codeword m b) false true false true false≢true false≢true e f
    (has-begins m (x ++ (false ∷ [])) z a u.1 i).1 (has-begins m (x ++ (true ∷ [])) o b u.2 j).1)
node-listed m q (node x z o) u p a b (inr i) (inl j) e f =
    let g = (has-begins m (x ++ (true ∷ [])) o a u.2 i).1 in
    let same : p ≡ x = part-once p x (codeword m a) (codeword m b) false true true false false≢true true≢false e f
    g (has-begins m (x ++ (false ∷ [])) z b u.1 j).1 in
    absurd (begins-one p (codeword m a) e (rw (← same) at g))

pub nodes_are : (m N : ℕ) → 1 ≤ m → 1 ≤ N → (p : List Bool) → Mem p (nodes (tree m N)) ↔ (is_node m N p ≡ true)
nodes_are m N k h p =
    let t = tree m N in
    let u = tree-under m N k h in (
      λ (i : Mem p (nodes t)). ∥∥₁_elim i (Bool-set _ _) (listed-node m N [] t u (λ n i. (tree-only m N k h n i).1) p),
      λ (e : is_node m N p ≡ true).
          let g = node-both m N p e in
          let a = goes_some m N (p ++ (false ∷ [])) g.0 in
          let b = goes_some m N (p ++ (true ∷ [])) g.1 in
          ∣ node-listed m [] t u p a.0 b.0 (tree-has m N k h a.0 a.1 a.2) (tree-has m N k h b.0 b.1 b.2) a.3 b.3 ∣₁,
    )

-- ## Their digits

-- a string ends with r ones
ending : (p : List Bool) → (r : ℕ) × ((p ≡ ones r) ⊎ ((y : List Bool) × (p ≡ (y ++ (false ∷ [])) ++ ones r)))
ending [] = (0, inl refl)
ending (a ∷ p) = let x = ending p in go a x.0 x.1
  where
    go : (a : Bool) (r : ℕ) → (p ≡ ones r) ⊎ ((y : List Bool) × (p ≡ (y ++ (false ∷ [])) ++ ones r))
        → (r : ℕ) × ((a ∷ p ≡ ones r) ⊎ ((y : List Bool) × (a ∷ p ≡ (y ++ (false ∷ [])) ++ ones r)))
    go true r (inl e) = (suc r, inl (ap (λ (l : List Bool). true ∷ l) e))
    go false r (inl e) = (r, inr ([], ap (λ (l : List Bool). false ∷ l) e))
    go a r (inr (y, e)) = (r, inr (a ∷ y, ap (λ (l : List Bool). a ∷ l) e))

-- fewer than m ones may become m
ones-go : (m N : ℕ) (x : List Bool) (r : ℕ) → 1 ≤ m → r < m → Codeword m (x ++ ones m) → number m (x ++ ones m) ≤ N
    → begins_some m N ((x ++ ones r) ++ (true ∷ [])) ≡ true
ones-go m N x r p l c h =
    let j : ℕ = m - suc r in
    let all : r + suc j ≡ m = omega arith in
    let e : ((x ++ ones r) ++ (true ∷ [])) ++ ones j ≡ x ++ ones m =
    append_assoc (x ++ ones r) (true ∷ []) (ones j) ∙ append_assoc x (ones r) (ones (suc j))
    ∙ ap (λ (b : List Bool). x ++ b) (replicate-append-replicate r (suc j) true ∙ ap ones all) in
    goes-codeword m N ((x ++ ones r) ++ (true ∷ [])) (ones j) p (rw e c) (rw e h)

one-goes : (m N : ℕ) (p : List Bool) → 1 ≤ m → runs m p ≡ 0 → number m (p ++ (false ∷ ones m)) ≤ N → begins_some m N (p ++ (true ∷ [])) ≡ true
one-goes m N p k free h = let x = ending p in go x.0 x.1
  where
    go : (r : ℕ) → (p ≡ ones r) ⊎ ((y : List Bool) × (p ≡ (y ++ (false ∷ [])) ++ ones r)) → begins_some m N (p ++ (true ∷ [])) ≡ true
    go r (inl e) =
        let few : r < m = few_ones m r k (ap (runs m) (sym e) ∙ free) in
        rw e (ones-go m N [] r k few (form-codeword m (ones m) k (inl refl)) (omega (arith, number_one m, next-number m p, first_pos m (suc (length p)))))
    go r (inr (y, e)) =
        let y0 : List Bool = y ++ (false ∷ []) in
        let f : p ≡ y ++ (false ∷ ones r) = e ∙ append_assoc y (false ∷ []) (ones r) in
        let z : runs m y + runs m (ones r) ≡ 0 = sym (runs-cut m y (ones r) k) ∙ ap (runs m) (sym f) ∙ free in
        let c : y0 ++ ones m ≡ y ++ (false ∷ ones m) = append_assoc y (false ∷ []) (ones m) in
        let long : suc (length y) ≤ suc (length p) = omega (arith, ap length f, length-append y (false ∷ ones r)) in
        let low : number m (y0 ++ ones m) ≤ N =
        omega (arith, ap (number m) c, next-number m y, next-number m p, first-rises m long, ap (value m 1) f, value-append m 1 y (false ∷ ones r)) in
        rw e (ones-go m N y0 r k (few_ones m r k (omega arith)) (form-codeword m (y0 ++ ones m) k (inr (y, c, omega arith))) low)

pub node_digits : (m N : ℕ) → 1 ≤ m → 1 ≤ N → (p : List Bool) → (is_node m N p ≡ true) ↔ ((runs m p ≡ 0) × (number m (p ++ (false ∷ ones m)) ≤ N))
node_digits m N k h p = (
  λ (e : is_node m N p ≡ true).
      let p0 : List Bool = p ++ (false ∷ []) in
      let n = goes_some m N p0 (node-both m N p e).0 in
      let y : List Bool = drop (length p0) (codeword m n.0) in
      let f : p ++ (false ∷ y) ≡ codeword m n.0 = sym (append_assoc p (false ∷ []) y) ∙ begins-rest p0 (codeword m n.0) n.3 in
      let c : Codeword m (p ++ (false ∷ y)) = rw f (codeword-good m n.0 k n.1).0 in
      (runs-before m p false y k c, omega (arith, next-least m p n.0 k n.1 n.3)),
  λ (d : (runs m p ≡ 0) × (number m (p ++ (false ∷ ones m)) ≤ N)).
      let e : (p ++ (false ∷ [])) ++ ones m ≡ p ++ (false ∷ ones m) = append_assoc p (false ∷ []) (ones m) in
      both-node m N p
      (goes-codeword m N (p ++ (false ∷ [])) (ones m) k (form-codeword m _ k (inr (p, e, d.0))) (rw e d.1))
      (one-goes m N p k d.0 d.1),
)

-- ## Each once

-- no string begins with itself and a bit more
no_longer : (p : List Bool) (a : Bool) → is_prefix (p ++ (a ∷ [])) p ≡ true → ⊥
no_longer p a e =
    omega (
      arith,
      ap length (begins-rest (p ++ (a ∷ [])) p e),
      length-append (p ++ (a ∷ [])) (drop (length (p ++ (a ∷ []))) p),
      length-append p (a ∷ []),
    )

pub nodes_once : (m : ℕ) (q : List Bool) (t : Tree) → Under m q t → Nodup (nodes t)
unfolding nodes Nodup-cons Nodup-append
nodes_once m q (leaf n) u = Pairwise.nil
nodes_once m q (node p z o) u =
    let zs = nodes-begin m (p ++ (false ∷ [])) z u.1 in
    let os = nodes-begin m (p ++ (true ∷ [])) o u.2 in
    Nodup-cons.1 (
      λ (i : Mem p (nodes z ++ nodes o)).
          ∥∥₁_elim i ⊥_prop (λ j.
          ⊎_elim (λ k. no_longer p false (all_in _ p (nodes z) zs k)) (λ k. no_longer p true (all_in _ p (nodes o) os k)) (Memᴰ.append_cases (nodes z) j)),
      Nodup-append.1 (
        nodes_once m _ z u.1,
        nodes_once m _ o u.2,
        λ r i j. ∥∥₁_elim i ⊥_prop (λ a. ∥∥₁_elim j ⊥_prop (λ b. begins-one p r (all_in _ r (nodes z) zs a) (all_in _ r (nodes o) os b))),
      ),
    )
