-- The blocks that the bits left need are kept, and the last of them is cleared.
use Rattle.std.proofs.Common.{◌≡◌, ap, ◌∙◌, map, length, arith}
use Rattle.std.proofs.lemmas.List.{take_at}
use Rattle.vob_block.specs.Packing.{unpacking}
use Rattle.vob_store.proofs.CutLemmas.{length-kept, unpacking-kept}
use Rattle.vob_store.proofs.mask.truncate_to.Goals as goal

pub mask_last-requires : goal.mask_last-requires
mask_last-requires g c =
    rw (c.deref_mut.ensures.value, c.truncate.ensures.items)
    (length-kept g.T.BitBlock.number _ g.met.T.BitBlock.wide_law _ _ c.requires.count _
    c.requires.shorter _ _ c.BITS.ensures c.div_ceil.ensures)

pub returns-clause-stores : goal.returns-clause-stores
returns-clause-stores g c =
    let number = g.T.BitBlock.number in
    let w = g.T.BitBlock.BITS in
    let long : length c.mask_last.new.blocks ≡ c.truncate.new.self.len =
    omega (arith, c.mask_last.auto.blocks, c.deref_mut.ensures.len) in
    let kept = unpacking-kept number _ g.met.T.BitBlock.wide_law _ _ c.requires.count _
    c.requires.shorter _ _ c.BITS.ensures c.div_ceil.ensures in
    rw (take_at c.mask_last.new.blocks _ c.truncate.new.self.len long)
    (record {
      canonical = c.mask_last.ensures.canonical;
      bits = c.mask_last.ensures.bits ∙ ap (λ xs. unpacking c.args.new_len (map number xs) w)
          (c.deref_mut.ensures.value ∙ c.truncate.ensures.items) ∙ kept;
    })
