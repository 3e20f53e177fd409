use Rattle.std.proofs.Common.{arith, ◌≡◌, ℕ, List, length, take, Ok, refl, subst, sym, IsOk}
use Rattle.calls.specs.Calls.{Outcome}
use Rattle.listing_text.specs.Listing.{text, Puts, max_text_bytes}
use Rattle.listing_text.proofs.Printing.{puts_whole}
use Rattle.listing_text.proofs.Answering.{text_fits}
use Rattle.listing.proofs.print.Goals as goal

-- the buffer has room for the text, which is put
told : (s before : List ℕ) (answer : Outcome ℕ) (after : List ℕ) → length before ≡ max_text_bytes → Puts (text s) before answer after
    → (answer ≡ Ok (length (text s))) × (take (length (text s)) after ≡ text s)
told s before answer after room p = puts_whole _ _ _ _ (omega (arith, text_fits s)) p

pub unwrap-requires : goal.unwrap-requires
unwrap-requires c = subst IsOk (sym (told _ _ _ _ c.requires c.listing.ensures).0) refl

pub returns-clause-text : goal.returns-clause-text
returns-clause-text c = let t = told _ _ _ _ c.requires c.listing.ensures in cc (t.0, t.1)

pub returns-clause-size : goal.returns-clause-size
returns-clause-size c =
    let t = told _ _ _ _ c.requires c.listing.ensures in
    let e : c.unwrap.result ≡ length (text c.args.input.now) = cc t.0 in
    omega (arith, text_fits c.args.input.now)
