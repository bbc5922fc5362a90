-- Eight bytes are the next block of the packing of what is left.
use Rattle.std.proofs.Common.{◌≡◌, ◌++◌, length, sym, ap, ◌∙◌, arith}
use Rattle.vob_block.specs.Packing.{need, packing}
use Rattle.vob_store.proofs.LowBytesLemmas.{low_bits, length-low_bits, low_bits-drop, low_places_taken}
use Rattle.vob_block.proofs.PackingLemmas.{length-packing, packing_is}
use Rattle.vob_store.proofs.AppendLemmas.{packed_more, packed-count, packed-lt}
use Rattle.vob_store.proofs.RoomLemmas.{need_in_bytes}
use Rattle.vob_store.proofs.le_bytes.low_byte_blocks.Goals as goal

pub loop-first-init : goal.loop-first-init
loop-first-init c =
    let bits = low_bits c.args.bytes.now in
    let wanted : length (packing bits 64) ≡ c.div_ceil.result = length-packing 64 (omega arith) bits
    ∙ need_in_bytes _ _ (length-low_bits c.args.bytes.now) ∙ sym c.div_ceil.ensures in
    record {
      packed = ap (λ xs. xs ++ packing bits 64) c.in_ok-blocks.ensures.items;
      room = omega (arith, wanted, c.in_ok-blocks.ensures.capacity);
    }

pub push_reserved-requires : goal.push_reserved-requires
push_reserved-requires c =
    let h = c.loop-first.invariant in
    let rest = c.loop-first.rest.now in
    let front = c.in-Some.ensures.cases in
    let fewer = packed-lt 64 (omega arith) c.loop-first.blocks.items
    (packing (low_bits c.args.bytes.now) 64) (low_bits rest) h.packed
    (omega (arith, front.2, length-low_bits rest)) in
    omega (arith, h.room, fewer)

pub loop-first-preserved : goal.loop-first-preserved
loop-first-preserved c =
    let h = c.loop-first.invariant in
    let rest = c.loop-first.rest.now in
    let front = c.in-Some.ensures.cases in
    let long = length-low_bits rest in
    record {
      packed = rw c.push_reserved.ensures.items (packed_more 64 (omega arith)
          c.loop-first.blocks.items _ (low_bits rest) h.packed (low_bits c.in-Some.after.now)
          c.low_word.result 64 (omega (arith, front.2, long)) (omega (arith, front.2, long))
          (ap low_bits front.1 ∙ low_bits-drop 8 rest) c.low_word.ensures.within
          (low_places_taken c.low_word.result _ rest front.0 c.low_word.ensures.places));
      room = omega (arith, h.room, c.push_reserved.ensures.capacity);
    }

pub push_low_bytes-requires-clause-room : goal.push_low_bytes-requires-clause-room
push_low_bytes-requires-clause-room c =
    let h = c.loop-first.invariant in
    let count = packed-count 64 (omega arith) c.loop-first.blocks.items
    (packing (low_bits c.args.bytes.now) 64) (low_bits c.loop-first.rest.now) h.packed in
    omega (arith, h.room, count, ap (λ n. need n 64) (length-low_bits c.loop-first.rest.now))

pub returns-clause-stores : goal.returns-clause-stores
returns-clause-stores c = packing_is 64 (omega arith) (low_bits c.args.bytes.now) _ _
    (c.push_low_bytes.ensures ∙ c.loop-first.invariant.packed) (length-low_bits c.args.bytes.now)
