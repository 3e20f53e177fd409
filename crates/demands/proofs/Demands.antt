-- All that is promised of the definitions together.
use Rattle.fibonacci.proofs.Numbers.{first_order_2}
use Rattle.demands.specs.Demands.{Demands}
use Rattle.demands.proofs.Codes.{demand-3}
use Rattle.demands.proofs.RoundTrip.{round_trip}
use Rattle.demands.proofs.Readers.{two-readers}
use Rattle.demands.proofs.Totals.{totals-demand}
use Rattle.demands.proofs.Headers.{header-demand, header_examples}
use Rattle.demands.proofs.Replacing.{replace-demand, replace_examples, preview-demand, preview_examples}
use Rattle.demands.proofs.Dense.{dense-demand}
use Rattle.demands.proofs.Index.{index-demand, built-answers}
use Rattle.demands.proofs.Listing.{listing-demand}
use Rattle.demands.proofs.Pencil.{pencil-holds}
use Rattle.demands.proofs.Sentences.{sentences-hold}

pub demands-hold : Demands
demands-hold =
    record {
      codes = demand-3;
      readers = two-readers;
      round_trip = round_trip;
      headers = header-demand;
      header_examples = header_examples;
      replacing = replace-demand;
      replace_examples = replace_examples;
      previews = preview-demand;
      preview_examples = preview_examples;
      totals = totals-demand;
      index = index-demand;
      built = built-answers;
      dense = dense-demand;
      first_order_2 = first_order_2;
      listing = listing-demand;
      pencil = pencil-holds;
      sentences = sentences-hold;
    }
