-- Blocks are filled up with the bit, and then the unused places cleared.
use Rattle.std.proofs.Common.{◌*◌, ◌∙◌, sym, ap, map, length, arith}
use Rattle.std.proofs.lemmas.List.{take_at, length-map}
use Rattle.vob_block.specs.Packing.{unpacking}
use Rattle.vob_block.proofs.NeedLemmas.{need-le-need, need_enough}
use Rattle.vob_block.proofs.PackingLemmas.{length-unpacking}
use Rattle.vob_store.proofs.FillLemmas.{unpacking-filled}
use Rattle.vob_store.proofs.RoomLemmas.{need-mul}
use Rattle.vob_store.proofs.fill.append_fill.Goals as goal

pub fill_up-requires-clause-longer : goal.fill_up-requires-clause-longer
fill_up-requires-clause-longer g c = omega (
  arith,
  c.requires.canonical.count,
  length-map c.args.blocks.now.items g.T.BitBlock.number,
  c.block_count.ensures,
  need-le-need g.T.BitBlock.BITS g.met.T.BitBlock.wide_law c.args.len c.args.new_len c.requires.longer,
)

pub mask_last-requires : goal.mask_last-requires
mask_last-requires g c = ap length c.deref_mut.ensures.value
    ∙ sym (length-map c.fill_up.new.blocks.items g.T.BitBlock.number)
    ∙ c.fill_up.ensures.stores.canonical.count
    ∙ need-mul g.T.BitBlock.BITS g.met.T.BitBlock.wide_law c.block_count.result ∙ c.block_count.ensures

pub returns-clause-stores : goal.returns-clause-stores
returns-clause-stores g c =
    let w = g.T.BitBlock.BITS in
    let number = g.T.BitBlock.number in
    let enough = need_enough w g.met.T.BitBlock.wide_law c.args.new_len in
    let room = ap (λ k. k * w) c.block_count.ensures in
    let filled = unpacking-filled w c.args.len c.block_count.result c.args.new_len _ _ c.args.value
    (length-unpacking c.args.len (map number c.args.blocks.now.items) w) c.fill_up.ensures.stores
    c.requires.longer (omega (arith, enough, room)) in
    rw (take_at c.mask_last.new.blocks _ c.fill_up.new.blocks.len
    (c.mask_last.auto.blocks ∙ c.deref_mut.ensures.len))
    (record {
      canonical = c.mask_last.ensures.canonical;
      bits = c.mask_last.ensures.bits ∙ ap (λ zs. unpacking c.args.new_len (map number zs) w)
          c.deref_mut.ensures.value ∙ filled;
    })
