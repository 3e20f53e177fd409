-- A walk: what it finds below a node, from what it finds on one side.
use mathlib.Core.Path.{◌≡◌, sym, ap, ap₂, ◌∙◌}
use mathlib.Core.Bool.{Bool, true, false}
use mathlib.Core.List.{List, [], ◌∷◌, ◌++◌}
use Prim.Native.Nat.{ℕ, ◌+◌, ◌-◌, ◌*◌, ◌≤◌, ◌<◌}
use native.Mathlib.Omega.{arith}
use native.Mathlib.Nat.{add-zero}
use lib.ListN.{length, get_or, take, drop, get_or-replicate, length-drop}
use Rattle.std.specs.Prelude.{Option, Some, None}
use Rattle.bits.specs.Bits.{unpack, count}
use Rattle.bits.proofs.Bytes.{unpack-length}
use Rattle.fibonacci.specs.Code.{codeword}
use Rattle.wavelet.specs.Nodes.{node, prune}
use Rattle.wavelet.specs.Bitmaps.{need, row_of_bitmaps}
use Rattle.wavelet.specs.Leaves.{CursorAt, node_test, side, side_of, Ends, Starts, Closes}
use Rattle.wavelet.specs.declared.Cursor.{Cursor}
use Rattle.wavelet.proofs.Strings.{begins-front}
use Rattle.wavelet.proofs.Pruned.{AtNode, cursor-number}
use Rattle.wavelet.proofs.Merging.{count-before}
use Rattle.wavelet.proofs.Trees.{Under, map-length, visits-leaf}
use Rattle.wavelet.proofs.Walking.{is-node, at-node, is_leaf, leaf-only, end-leaf, end-cut, end_on}
use Rattle.wavelet.proofs.Sides.{count-side, row-side, before_side, place-bit, extract-side, visits-side, node-under}
use Rattle.wavelet_walk.specs.Leaves.{answer_of, at_leaf, InView, turn, onward, back, Goes, Arrived, Finds}
use Rattle.wavelet_walk.specs.declared.Question.{Question}
use Rattle.wavelet_walk.specs.declared.Question.TheVariants.{Extract, Rank, Select}
use Rattle.wavelet_walk.specs.declared.Walked.{Walked}
use Rattle.wavelet_walk.proofs.Questions.{answer-same, answer-side, goes-side}

-- the walk's number at a leaf
leaf-goes : (question : Question) {m N f : ℕ} {q : List Bool} {v : Cursor} → CursorAt m N f q v → node_test m N v ≡ false → (x n : ℕ) → Goes question m N q x n → v.number ≡ n
leaf-goes Extract h e x n g = absurd g
leaf-goes Rank h e x n g = sym (leaf-only h e n g.1 g.2 g.3)
leaf-goes Select h e x n g = sym (leaf-only h e n g.1 g.2 g.3)

module _ (m N : ℕ) (v : Cursor) (k : ℕ) (s : List ℕ) (at : ℕ) (question : Question) (x i : ℕ) (here : at ≤ 8 * length s) where
  -- a leaf
  pub find-leaf : InView question i k → node_test m N v ≡ false → (p : ℕ) → p ≡ at_leaf question v.number k i
      → Finds m N v k s at question x i (Some (record { end = at; result = p; visits = v.depth }))
  find-leaf view e p is = (
    end-leaf m N v k s at here e,
    λ (f : ℕ) (q : List Bool) (h : CursorAt m N f q v).
        let t = is_leaf m N v e f q h in
        let n = cursor-number h in
        record {
          number = v.number;
          some = n.0;
          most = h.small;
          below = n.1;
          found = rw t (unfold row_of_bitmaps in is ∙ answer-same question v.number k i view);
          visited = rw (t, visits-leaf m v.number v.number) (sym (add-zero v.depth));
          at_place = λ a lt. rw t (unfold row_of_bitmaps in sym (get_or-replicate k i v.number 0 lt));
          at_codeword = λ n g. leaf-goes question h e x n g;
        },
  )

  module _ (test : node_test m N v ≡ true) (fits : at + k ≤ 8 * length s) (e : ℕ) (ones : e ≡ count true (take k (drop at (unpack s)))) where
    in-bits : at + k ≤ length (unpack s)
    in-bits = omega (arith, unpack-length s)

    -- the walk goes on to the side of the bit a: the 0 side ends at bit `mid`, and the 1 side at bit `end`
    module _ (deep : v.depth < 32) (view : InView question i k) (a : Bool) (way : turn question x s at i v.depth ≡ a) (mid : ℕ) (mids : Ends m N (side_of m v false) (k - e) s (at + k) (Some mid))
        (end : ℕ) (last : Ends m N (side_of m v true) e s mid (Some end)) (found : Walked)
        (below : Finds m N (side_of m v a) (side a (k - e) e) s (side a (at + k) mid) question x (onward question a (drop at (unpack s)) i) (Some found))
        (p : ℕ) (results : p ≡ back question a (take k (drop at (unpack s))) found.result) where
      all_end : Ends m N v k s at (Some end)
      all_end = end_on m N v k s at here test fits e ones mid mids (Some end) last

      there : (f : ℕ) (q : List Bool) (branch : AtNode m N f q v.depth v.next v.ones v.number) → (a : Bool) (n j : ℕ)
          → Finds m N (side_of m v a) n s (side a (at + k) mid) question x j (Some found)
          → Arrived m N (q ++ (a ∷ [])) (side a (prune m N branch.g (q ++ (false ∷ []))) (prune m N branch.g (q ++ (true ∷ []))))
          (drop (side a (at + k) mid) (unpack s)) n question x j (v.depth + 1) found
      there f q branch false n j r = r.1 branch.g (q ++ (false ∷ [])) branch.zero_side
      there f q branch true n j r = r.1 branch.g (q ++ (true ∷ [])) branch.one_side

      arrived : (f : ℕ) (q : List Bool) (h : CursorAt m N f q v)
          → Arrived m N q (prune m N f q) (drop at (unpack s)) k question x i v.depth (record { end = end; result = p; visits = found.visits })
      arrived f q h =
          let b = unpack s in
          let branch = at-node h test in
          let z = prune m N branch.g (q ++ (false ∷ [])) in
          let o = prune m N branch.g (q ++ (true ∷ [])) in
          let u : Under m q (node q z o) = node-under h z o branch.tree_is in
          let inside = rw branch.tree_is at (all_end f q h) in
          let d : need (node q z o) k (drop at b) ≤ length (drop at b) = omega (arith, inside.1, length-drop at b, unpack-length s) in
          let zs = mids branch.g (q ++ (false ∷ [])) branch.zero_side in
          let row = row-side k b at e in-bits ones z o mid zs.0 a in
          let r = there f q branch a _ _ below in
          let n = r.number in
          rw branch.tree_is (record {
            number = n;
            some = r.some;
            most = r.most;
            below = begins-front q (codeword m n) a r.below;
            found = results ∙ ap (back question a (take k (drop at b))) (r.found ∙ ap (answer_of question n (onward question a (drop at b) i)) (sym row))
                ∙ sym (answer-side question m q z o u k (drop at b) d a n r.below i view);
            visited = omega (arith, r.visited, visits-side m q z o u a n r.below);
            at_place = λ p lt.
                let le : i ≤ k = omega arith in
                let bit : get_or (take k (drop at b)) i false ≡ a =
                place-bit k b at e in-bits ones i le lt ∙ ap (λ (y : Question). turn y x s at i v.depth) (sym p) ∙ way in
                let more = count-before a (take k (drop at b)) i (omega (arith, map-length m q q z o k (drop at b) u d)) bit in
                let ranks : onward question a (drop at b) i ≡ count a (take i (take k (drop at b))) =
                ap (λ (y : Question). onward y a (drop at b) i) p ∙ sym (before_side k b at e in-bits ones i le a) in
                r.at_place p (omega (arith, more, ranks, count-side k b at e in-bits ones a)) ∙ ap₂ (λ (l : List ℕ) (j : ℕ). get_or l j 0) (sym row) ranks
                ∙ sym (extract-side m q z o u k (drop at b) d a i lt bit);
            at_codeword = λ n g. r.at_codeword n (goes-side question h (is-node m N v test).0 deep x n g s at i a way);
          })

      find-side : Finds m N v k s at question x i (Some (record { end = end; result = p; visits = found.visits }))
      find-side = (all_end, arrived)

    -- the bitmaps run past the bytes before the side of the bit a
    pub none-before : (a : Bool) → Starts m N v k e s at a None → Ends m N v k s at None
    none-before false d = let none : ◌≡◌ {A = Option ℕ} None (Some (at + k)) = d in cc
    none-before true d = end-cut m N v k s at here test fits e ones d

    -- it starts at bit `start`
    module _ (a : Bool) (start : ℕ) (starts : Starts m N v k e s at a (Some start)) where
      -- they do so on that side
      pub none-there : Ends m N (side_of m v a) (side a (k - e) e) s start None → Ends m N v k s at None
      none-there = go a starts
        where
          go : (a : Bool) → Starts m N v k e s at a (Some start) → Ends m N (side_of m v a) (side a (k - e) e) s start None → Ends m N v k s at None
          go false d past = let same : start ≡ at + k = cc in end-cut m N v k s at here test fits e ones (rw same at past)
          go true d past = end_on m N v k s at here test fits e ones start d None past

      -- or after it
      pub none-after : (end : ℕ) → Ends m N (side_of m v a) (side a (k - e) e) s start (Some end) → Closes m N v e s end a None → Ends m N v k s at None
      none-after = go a starts
        where
          go : (a : Bool) → Starts m N v k e s at a (Some start) → (end : ℕ) → Ends m N (side_of m v a) (side a (k - e) e) s start (Some end)
              → Closes m N v e s end a None → Ends m N v k s at None
          go false d end there past = let same : start ≡ at + k = cc in end_on m N v k s at here test fits e ones end (rw same at there) None past
          go true d end there past = let none : ◌≡◌ {A = Option ℕ} None (Some end) = past in cc

      pub find-done : v.depth < 32 → InView question i k → turn question x s at i v.depth ≡ a
          → (found : Walked) → Finds m N (side_of m v a) (side a (k - e) e) s start question x (onward question a (drop at (unpack s)) i) (Some found)
          → (end : ℕ) → Closes m N v e s found.end a (Some end) → (p : ℕ) → p ≡ back question a (take k (drop at (unpack s))) found.result
          → Finds m N v k s at question x i (Some (record { end = end; result = p; visits = found.visits }))
      find-done deep view = go a starts
        where
          go : (a : Bool) → Starts m N v k e s at a (Some start) → turn question x s at i v.depth ≡ a
              → (found : Walked) → Finds m N (side_of m v a) (side a (k - e) e) s start question x (onward question a (drop at (unpack s)) i) (Some found)
              → (end : ℕ) → Closes m N v e s found.end a (Some end) → (p : ℕ) → p ≡ back question a (take k (drop at (unpack s))) found.result
              → Finds m N v k s at question x i (Some (record { end = end; result = p; visits = found.visits }))
          go false d way found below end last p r =
              let same : start ≡ at + k = cc in
              let there = rw same at below in
              find-side deep view false way found.end there.0 end last found there p r
          go true d way found below end last p r =
              let same : end ≡ found.end = cc in
              find-side deep view true way start d end (rw same below.0) found below p r
