use Rattle.std.proofs.Common.{◌≡◌, length}
use Rattle.std.specs.Slice.Iter.{chunks_exact_rest, chunks_exact_size}
use Rattle.std.specs.Iterator.Adapters.{enumerate_source, enumerate_count}
use Rattle.listing_input.proofs.Input.{Parsed}
use Rattle.listing_input.proofs.parse.Given as goal

abbrev pub invariant-loop-i : goal.invariant-loop-i
invariant-loop-i l =
    let lines = enumerate_source l.i-iterator in
    (chunks_exact_size lines ≡ 11) × (length l.numbers ≡ 4097) × Parsed l.input (enumerate_count l.i-iterator) (chunks_exact_rest lines) l.numbers
