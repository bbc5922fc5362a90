-- The packing of the bits that find no room in the last block follows.
use Rattle.std.proofs.Common.{◌∙◌, map, drop, length, arith}
use Rattle.std.proofs.lemmas.List.{length-append, length-map, take_at, take_rest}
use Rattle.vob_block.specs.Packing.{packing, unpacking}
use Rattle.vob_block.proofs.PackingLemmas.{length-packing}
use Rattle.vob_store.proofs.AppendLemmas.{Stores-parts}
use Rattle.vob_store.proofs.pack.append_slice.Goals as goal

pub push_packed-requires : goal.push_packed-requires
push_packed-requires g c =
    let w = g.T.BitBlock.BITS in
    let number = g.T.BitBlock.number in
    let taken = c.top_up-taken.result in
    let news = c.top_up-taken.new.blocks in
    let stored = Stores-parts _ g.met.T.BitBlock.wide_law c.args.len
    (unpacking c.args.len (map number c.args.blocks.now.items) w) c.args.bits.now taken _
    c.top_up-taken.ensures.inside c.top_up-taken.ensures.whole
    (rw c.deref_mut.ensures.value at c.top_up-taken.ensures.stores) in
    let left = take_at news (drop (length news) c.args.blocks.now.items) c.args.blocks.now.len
    (c.top_up-taken.auto.blocks ∙ c.deref_mut.ensures.len) in
    record {
      room = rw (left, take_rest) (omega (
        arith,
        stored.canonical.count,
        length-append (map number news) (packing (drop taken c.args.bits.now) w),
        length-packing w g.met.T.BitBlock.wide_law (drop taken c.args.bits.now),
        length-map news number,
        c.requires.room,
      ));
    }

pub returns-clause-stores : goal.returns-clause-stores
returns-clause-stores g c =
    let w = g.T.BitBlock.BITS in
    let number = g.T.BitBlock.number in
    let news = c.top_up-taken.new.blocks in
    let left = take_at news (drop (length news) c.args.blocks.now.items) c.args.blocks.now.len
    (c.top_up-taken.auto.blocks ∙ c.deref_mut.ensures.len) in
    rw (rw (left, take_rest) at c.push_packed.ensures.blocks) (Stores-parts _
    g.met.T.BitBlock.wide_law c.args.len
    (unpacking c.args.len (map number c.args.blocks.now.items) w) c.args.bits.now
    c.top_up-taken.result _ c.top_up-taken.ensures.inside c.top_up-taken.ensures.whole
    (rw c.deref_mut.ensures.value at c.top_up-taken.ensures.stores))
