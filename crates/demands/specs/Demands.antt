-- All that is promised of the definitions together, and for which orders, alphabets and stoppers.
use Rattle.std.specs.Prelude.{◌≡◌, ℕ, suc, ◌≤◌}
use Rattle.fibonacci.specs.Code.{F, first}
use Rattle.demands.specs.Codes.{Demand3}
use Rattle.demands.specs.RoundTrip.{RoundTrip}
use Rattle.demands.specs.Readers.{TwoReaders}
use Rattle.demands.specs.Totals.{TotalsDemand}
use Rattle.demands.specs.Headers.{HeaderDemand, HeaderExamples}
use Rattle.demands.specs.Replacing.{ReplaceDemand, ReplaceExamples, PreviewDemand, PreviewExamples}
use Rattle.demands.specs.Dense.{DenseDemand}
use Rattle.demands.specs.Index.{IndexDemand, BuiltAnswers}
use Rattle.demands.specs.Listing.{ListingDemand}
use Rattle.demands.specs.Pencil.{Pencil}
use Rattle.demands.specs.Sentences.{Sentences}

pub record Demands : Type 0 where
  -- Demand 3, shown for every order at once, and its last sentence with demand 2's on the two readers
  pub codes : (m : ℕ) → 2 ≤ m → Demand3 m
  pub readers : TwoReaders
  -- Demand 2: writing and reading; appending, by true headers (paper 02, R-4); replacing (R-5), and seeing that before (R-6); totals; the
  -- index and its questions
  pub round_trip : (m : ℕ) → RoundTrip m
  pub headers : (m : ℕ) → HeaderDemand m
  pub header_examples : HeaderExamples
  pub replacing : (m : ℕ) → ReplaceDemand m
  pub replace_examples : ReplaceExamples
  pub previews : (m : ℕ) → PreviewDemand m
  pub preview_examples : PreviewExamples
  pub totals : TotalsDemand
  pub index : (m N : ℕ) → 2 ≤ m → 1 ≤ N → IndexDemand m N
  pub built : BuiltAnswers
  -- Paper 02, R-2: the dense code
  pub dense : DenseDemand
  -- Paper 02, R-3: in order 2 the first number with d bits before its two ones is F(d + 1); so with s digits and a 0 it is F(s + 2), and number 1 is F(1)
  pub first_order_2 : (d : ℕ) → first 2 d ≡ F 2 (suc d)
  -- Paper 01: the listing; its worked examples, and the sentences beside them
  pub listing : ListingDemand
  pub pencil : Pencil
  pub sentences : Sentences
