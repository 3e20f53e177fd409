-- One read after another.
use Rattle.std.proofs.Common.{◌≡◌, ℕ, ◌+◌, ◌≤◌, List, ◌++◌, length, take, drop, ap, ◌∙◌, subst, le_refl, drop_at, length-take-le, take-add, Option, sym}
use Rattle.std.proofs.lemmas.Slice.{take-put_mid_below}
use Rattle.std.specs.Io.KnownBytes.{Consumes}
use Rattle.std.proofs.KnownBytes.{Consumes-trans}
use borrow.Rule.Slice.PartMut.{put_mid, post_of}
use lib.Seq.{take-append-le}

-- the first m elements that a read put behind the first a
take-put_mid : (a m k : ℕ) (xs ys : List ℕ) → a ≤ length xs → m ≤ length ys → take (a + m) (put_mid a k xs ys) ≡ take a xs ++ take m ys
take-put_mid a m k xs ys within fits =
    let all = put_mid a k xs ys in
    let after = post_of a k xs in
    take-add a m all
    ∙ ap (λ l. l ++ take m (drop a all)) (take-put_mid_below a k xs ys a (le_refl _) within)
    ∙ ap (λ l. take a xs ++ take m l) (drop_at (take a xs) (ys ++ after) a (length-take-le a xs within))
    ∙ ap (λ l. take a xs ++ l) (take-append-le m ys after fits)

pub read_more : (before between after : Option (List ℕ)) (n m k : ℕ) (xs ys : List ℕ) → Consumes before between (take n xs) → Consumes between after (take m ys)
    → n ≤ length xs → m ≤ length ys → Consumes before after (take (n + m) (put_mid n k xs ys))
read_more before between after n m k xs ys first second within fits =
    subst (Consumes before after) (sym (take-put_mid n m k xs ys within fits)) (Consumes-trans before between after _ _ first second)
