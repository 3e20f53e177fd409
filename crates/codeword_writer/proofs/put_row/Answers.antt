use mathlib.Core.Path.{◌≡◌, refl, ◌∙◌}
use mathlib.Core.List.{List}
use Prim.Native.Nat.{ℕ, ◌+◌, ◌*◌, ◌≤◌}
use native.Mathlib.Omega.{arith}
use lib.ListN.{length, length-take, length-drop}
use Rattle.std.proofs.Common.{rules}
use Rattle.bits.specs.Bits.{word_bits, unpack, byte_count}
use Rattle.bits.specs.Leaves.{put_to, put_at}
use Rattle.bits.proofs.Words.{words-length}
use Rattle.bits.proofs.Put.{put-within, put-part}
use Rattle.calls.proofs.Checks.{number_is, legal-at}
use Rattle.calls.specs.Limits.{max_number, max_count}
use Rattle.fibonacci.proofs.Rows.{bits-few}
use Rattle.codeword_writer.proofs.Rows.{Put, put-none, put-room, put_next, put-end}
use Rattle.codeword_writer.proofs.put_row.Goals as goal
use Rattle.codeword_writer.proofs.put_row.Goals.{After-codeword-word, then-k-bytes, else-k-bytes}

-- with the codeword of the number at n-index
module _ (c : After-codeword-word) where
  -- it stays within the encoding
  room : (c.loop-n.at + c.codeword-word.result.len ≤ 8 * c.args.bytes) × (c.args.bytes ≤ 6 * max_count)
  room =
      let a = c.args in
      let l = c.loop-n in (
        omega (arith, c.requires.bytes_are, c.codeword-word.ensures.1, put-room a.order.m a.row.now a.bytes l.n-index l.at _ _ l.invariant.put c.from.result (omega arith) c.from.ensures),
        omega (arith, c.requires.bytes_are, c.requires.count, bits-few a.order.m a.row.now a.order.in_use c.requires.legal),
      )

  -- it stands in the buffer, with zeros up to bit d
  next : (d : ℕ) (out : List ℕ)
      → let l = c.loop-n in
      let a = c.args in
      let w = c.codeword-word.result in
      8 * byte_count (l.at + w.len) ≤ d → d ≤ 8 * a.bytes → unpack out ≡ put_to l.at (word_bits w.len w.bits) d (unpack l.out)
      → Put a.order.m a.row.now a.bytes (l.n-index + 1) (l.at + w.len) (unpack out) (unpack a.out.now)
  next d out g h e =
      let a = c.args in
      let l = c.loop-n in
      let w = c.codeword-word in
      rw w.ensures.1
      (put_next a.order.m a.row.now a.bytes l.n-index l.at _ _ l.invariant.put c.from.result d _ (omega arith) c.from.ensures (rw w.ensures.1 at g) h
      (rw w.ensures.0 at e))

pub loop-n-init : goal.loop-n-init
loop-n-init c = record { long = refl; put = put-none c.args.order.m c.args.row.now c.args.bytes (unpack c.args.out.now) }

pub codeword-word-requires : goal.codeword-word-requires
codeword-word-requires c =
    number_is max_number c.from.result (rw c.from.ensures (legal-at max_number c.args.row.now c.loop-n.n-index c.requires.legal (omega arith)))

pub slice_bounds-put_word-count : goal.slice_bounds-put_word-count
slice_bounds-put_word-count c = omega (arith, room (goal.at.slice_bounds-put_word-count c).After-codeword-word)

pub slice_bounds-put_word-start : goal.slice_bounds-put_word-start
slice_bounds-put_word-start c = omega (arith, room (goal.at.slice_bounds-put_word-start c).After-codeword-word)

pub put_word-requires : goal.put_word-requires
put_word-requires c =
    (omega arith, omega (arith, room (goal.at.put_word-requires c).After-codeword-word, length-take {A = ℕ}, length-drop {A = ℕ}))

pub overflow_add-at : goal.overflow_add-at
overflow_add-at c = record { fits = omega (arith, room (goal.at.overflow_add-at c).After-codeword-word) }

pub loop-n-preserved : goal.loop-n-preserved
unfolding put_at
loop-n-preserved c =
    let l = c.loop-n in
    let w = c.codeword-word.result in
    let x = (goal.at.loop-n-preserved c).After-codeword-word in
    let r = room x in
    let long = words-length w.len w.bits in
    elim c.if-k-bytes.branch [
      | then-k-bytes v ↦
          rw v.out-is (record {
            long = search rules;
            put = next x _ _ (omega (arith, r)) (omega (arith, r)) (put-within l.out v.put_over.new.s l.at 64 _ (omega (arith, r)) v.put_over.ensures);
          })
      | else-k-bytes v ↦
          rw v.out-is (record {
            long = search rules;
            put = next x _ _ (omega (arith, r)) (omega (arith, r)) (put-part l.out v.put_word.new.s l.at _ (omega (arith, r)) v.put_word.ensures);
          })
    ]

pub returns : goal.returns
returns c =
    let l = c.loop-n in
    put-end c.args.order.m c.args.row.now c.args.bytes l.n-index l.at (unpack l.out) (unpack c.args.out.now) l.invariant.put (omega arith) c.requires.bytes_are
