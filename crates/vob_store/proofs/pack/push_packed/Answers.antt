-- The first piece of what is left is the first block of its packing.
use Rattle.std.proofs.Common.{length, map, ◌∙◌, refl, arith, min, ap}
use Rattle.std.proofs.lemmas.List.{length-append, length-map, map_push}
use Rattle.vob_block.specs.Packing.{packing}
use Rattle.vob_block.proofs.PackingLemmas.{length-packing}
use Rattle.vob_store.proofs.AppendLemmas.{packed_more, packed-lt, packed_all}
use Rattle.vob_store.proofs.PackLemmas.{some_left, none_left}
use Rattle.vob_store.proofs.pack.push_packed.Goals as goal

pub loop-rest-init : goal.loop-rest-init
loop-rest-init g c = record { packed = refl; capacity = refl }

pub push_reserved-requires : goal.push_reserved-requires
push_reserved-requires g c =
    let w = g.T.BitBlock.BITS in
    let number = g.T.BitBlock.number in
    let h = c.loop-rest.invariant in
    let olds = map number c.args.blocks.now.items in
    let some = some_left (length c.loop-rest.rest.now) c.is_empty.result c.is_empty.ensures
    c.loop-rest-test.true in
    omega (
      arith,
      packed-lt w g.met.T.BitBlock.wide_law (map number c.loop-rest.blocks.items) _
          c.loop-rest.rest.now h.packed some,
      length-append olds (packing c.args.bits.now w),
      length-packing w g.met.T.BitBlock.wide_law c.args.bits.now,
      length-map c.args.blocks.now.items number,
      length-map c.loop-rest.blocks.items number,
      h.capacity,
      c.requires,
    )

pub loop-rest-preserved : goal.loop-rest-preserved
loop-rest-preserved g c =
    let w = g.T.BitBlock.BITS in
    let number = g.T.BitBlock.number in
    let h = c.loop-rest.invariant in
    let rest = c.loop-rest.rest.now in
    let some = some_left (length rest) c.is_empty.result c.is_empty.ensures
    c.loop-rest-test.true in
    record {
      packed = rw (c.push_reserved.ensures.items, map_push) (packed_more w g.met.T.BitBlock.wide_law
          (map number c.loop-rest.blocks.items) _ rest h.packed _ _ _ some
          (c.min.ensures ∙ ap (min (length rest)) c.BITS-width.ensures) c.split_at.ensures.back
          c.pack_block.ensures.within (rw c.split_at.ensures.front at c.pack_block.ensures.places));
      capacity = c.push_reserved.ensures.capacity ∙ h.capacity;
    }

pub returns-clause-blocks : goal.returns-clause-blocks
returns-clause-blocks g c = packed_all g.T.BitBlock.BITS g.met.T.BitBlock.wide_law
    (map g.T.BitBlock.number c.loop-rest.blocks.items) _ c.loop-rest.rest.now
    c.loop-rest.invariant.packed (none_left (length c.loop-rest.rest.now) c.is_empty.result
    c.is_empty.ensures c.loop-rest-test.false)
