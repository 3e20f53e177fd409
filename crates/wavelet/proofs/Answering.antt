-- What the checks of building and of the questions say.
use mathlib.Core.Path.{◌≡◌, sym, ap, ◌∙◌}
use mathlib.Core.Bool.{Bool, true, false, not}
use mathlib.Core.List.{List, []}
use Prim.Native.Nat.{ℕ, suc, ◌+◌, ◌*◌, ◌≤◌, ◌<◌}
use native.Mathlib.Omega.{arith}
use lib.Dec.{ltb}
use lib.ListN.{length}
use borrow.Author.Tests.{not-false, le-ltb, ltb-false, ne_eqb}
use Rattle.bits.specs.Bits.{unpack, byte_count}
use Rattle.calls.proofs.Checks.{order_is, number_is, not-both, refused-same, check-passed}
use Rattle.calls.specs.declared.Refusal.{Refusal}
use Rattle.calls.specs.declared.Refusal.TheVariants.{BadOrder, TooManyNumbers, BadAlphabet, NotAnIndex}
use Rattle.calls.specs.Calls.{Outcome, check}
use Rattle.calls.specs.Limits.{is_order, is_number, max_count, Order}
use Rattle.wavelet.specs.Nodes.{tree}
use Rattle.wavelet.specs.Bitmaps.{need, exact, is_index}
use Rattle.wavelet.specs.Questions.{max_alphabet, check_tree, ask}
use Rattle.wavelet.specs.Leaves.{Passed, Place, end_in, Ends, max_index_bytes, Root}
use Rattle.wavelet.specs.declared.Cursor.{Cursor}
use Rattle.wavelet.proofs.Depth.{tree-need}
use Rattle.wavelet.proofs.Exact.{exact_past}
use Rattle.wavelet.proofs.Walking.{at-root}
use Rattle.std.specs.Prelude.{Ok, Err, Option, Some, None}

-- ## Order, alphabet and length

-- a refusal does not hang on what comes after
refuses : {A : Type 0} (r : Refusal) (x y z : Bool) (v : ℕ) (next : Outcome A)
    → check BadOrder x (check BadAlphabet y (check TooManyNumbers z (Ok v))) ≡ Err r
    → check BadOrder x (check BadAlphabet y (check TooManyNumbers z next)) ≡ Err r
refuses r true y z v next e = refused-same e
refuses r false true z v next e = refused-same e
refuses r false false true v next e = refused-same e
refuses r false false false v next e = absurd (not-both (sym e))

module _ (m N k : ℕ) where
  pub tree-accepted : {A : Type 0} {next : Outcome A} {x : A} → check_tree m N k next ≡ Ok x → Passed m N k × (next ≡ Ok x)
  tree-accepted {x = x} e =
      let o = check-passed BadOrder (not (is_order m)) _ x e in
      let a = check-passed BadAlphabet (not (is_number max_alphabet N)) _ x o.1 in
      let c = check-passed TooManyNumbers (ltb max_count k) _ x a.1 in
      (record { order = not-false _ o.0; alphabet = not-false _ a.0; count = ltb-false _ _ c.0 }, c.1)

  -- what comes after them decides
  pub tree-legal : {A : Type 0} → Passed m N k → (next : Outcome A) → check_tree m N k next ≡ next
  tree-legal p next = simp (p.order, p.alphabet, le-ltb max_count k p.count)

  -- or does not matter
  pub tree-refused : {A : Type 0} {r : Refusal} → check_tree m N k (Ok N) ≡ Err r → (next : Outcome A) → check_tree m N k next ≡ Err r
  tree-refused {r = r} e next = refuses r (not (is_order m)) (not (is_number max_alphabet N)) (ltb max_count k) N next e

-- ## Whether the bytes are an index

module _ {m N k : ℕ} (p : Passed m N k) where
  pub legal-order : Order m
  legal-order = order_is m p.order

  pub legal-alphabet : (1 ≤ N) × (N ≤ max_alphabet)
  legal-alphabet = number_is max_alphabet N p.alphabet

  module _ (s : List ℕ) where
    -- too many bytes
    pub index-long : max_index_bytes < length s → is_index m N k s ≡ false
    unfolding is_index
    index-long h =
        let most = tree-need m N k (unpack s) legal-order legal-alphabet.0 legal-alphabet.1 in
        simp (ne_eqb (byte_count (need (tree m N) k (unpack s))) (length s) (λ e. omega (arith, most, p.count)))

    -- by where the walk's bitmaps end
    module _ {v : Cursor} (root : Root v) where
      pub whole : (r : Option ℕ) → Ends m N v k s 0 r → Place (8 * length s) (0 + need (tree m N) k (unpack s)) r
      unfolding tree
      whole r walked = walked (m + N) [] (at-root m N (omega (arith, legal-order)) legal-alphabet.0 root)

      -- they run past the bytes
      pub index-short : Ends m N v k s 0 None → is_index m N k s ≡ false
      unfolding is_index
      index-short walked = exact_past s (need (tree m N) k (unpack s)) (omega (arith, whole None walked))

      -- or they end in them; as a number, both in one
      pub index_is : (r : Option ℕ) → Ends m N v k s 0 r → is_index m N k s ≡ exact (end_in (8 * length s) r) s
      unfolding is_index
      index_is None walked = index-short walked ∙ sym (exact_past s (suc (8 * length s)) (omega arith))
      index_is (Some end) walked =
          let same : need (tree m N) k (unpack s) ≡ end = omega (arith, (whole (Some end) walked).0) in
          ap (λ (i : ℕ). exact i s) same

    pub ask-not : {A : Type 0} (next : Outcome A) → is_index m N k s ≡ false → ask m N k s next ≡ Err NotAnIndex
    ask-not next e = tree-legal m N k p _ ∙ simp e

    pub ask-next : {A : Type 0} (next : Outcome A) → is_index m N k s ≡ true → ask m N k s next ≡ next
    ask-next next e = tree-legal m N k p _ ∙ simp e

    pub ask_long : max_index_bytes < length s → {A : Type 0} (next : Outcome A) → ask m N k s next ≡ Err NotAnIndex
    ask_long h next = ask-not next (index-long h)
