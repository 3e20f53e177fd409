-- The table of paper 01's examples, computed.
use mathlib.Core.Path.{refl}
use mathlib.Core.List.{flatten}
use Rattle.lists.specs.Lists.{filter}
use Rattle.bits.specs.Bits.{bit_of, word_bits, unpack, word_of, bytes_of, pack, count, select_bit}
use Rattle.fibonacci.specs.Code.{past, F, value, first, number, size, digits, codeword}
use Rattle.fibonacci.specs.Encoding.{row_bits, encoding, parse_after, parse, numbers}
use Rattle.calls.specs.Limits.{is_order, is_number, is_outside, check_each}
use Rattle.calls.specs.Reading.{check_finished, contents, decode}
use Rattle.reading.specs.Reading.{read, read_into}
use Rattle.totals.specs.Totals.{total}
use Rattle.encoder.specs.Writing.{write, write_into}
use Rattle.wavelet.specs.Nodes.{is_prefix, begins_some, is_node, prune, tree, nodes, prefixes, visits}
use Rattle.wavelet.specs.Bitmaps.{bitmap, joined, bitmaps, index, need, merge, row_of_bitmaps, is_index, row_of_index}
use Rattle.wavelet.specs.Questions.{build, build_into, rank_in, select_in, extract, rank, select}
use Rattle.demands.specs.Pencil.{Pencil, answer, table}

pub pencil-holds : Pencil
unfolding table answer flatten bit_of word_bits unpack word_of bytes_of pack count select_bit past F value first number size digits codeword row_bits encoding parse_after parse numbers is_order is_number is_outside check_each check_finished contents decode read read_into total write write_into filter is_prefix begins_some is_node prune tree nodes prefixes visits bitmap joined bitmaps index need merge row_of_bitmaps is_index row_of_index build build_into rank_in select_in extract rank select
pencil-holds = refl
