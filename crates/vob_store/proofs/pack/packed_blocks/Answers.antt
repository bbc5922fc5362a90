-- The blocks of the bits, behind none.
use Rattle.std.proofs.Common.{◌∙◌, ◌++◌, refl, ap, map, length, arith}
use Rattle.vob_block.specs.Packing.{packing}
use Rattle.vob_block.proofs.PackingLemmas.{packing_is}
use Rattle.vob_block.proofs.NeedLemmas.{need-is-div_ceil}
use Rattle.vob_store.proofs.pack.packed_blocks.Goals as goal

pub push_packed-requires : goal.push_packed-requires
push_packed-requires g c =
    let w = g.T.BitBlock.BITS in
    let wanted = need-is-div_ceil w g.met.T.BitBlock.wide_law (length c.args.bits.now) c.BITS.result
    c.BITS.ensures in
    record {
      room = omega (
        arith,
        wanted,
        c.div_ceil.ensures,
        c.in_ok-blocks.ensures.capacity,
        ap length c.in_ok-blocks.ensures.items,
      );
    }

pub returns-clause-stores : goal.returns-clause-stores
returns-clause-stores g c =
    let w = g.T.BitBlock.BITS in
    let number = g.T.BitBlock.number in
    let blocks = c.push_packed.ensures.blocks
    ∙ ap (λ xs. map number xs ++ packing c.args.bits.now w) c.in_ok-blocks.ensures.items in
    packing_is w g.met.T.BitBlock.wide_law c.args.bits.now (length c.args.bits.now)
    (map number c.push_packed.new.blocks.items) blocks refl
