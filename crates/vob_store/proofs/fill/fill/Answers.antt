-- All blocks are of the one bit, and then the unused places are cleared.
use Rattle.std.proofs.Common.{◌∙◌, ◌*◌, ◌≤◌, map, length, ap, sym}
use Rattle.std.proofs.lemmas.List.{length-map}
use Rattle.vob_block.specs.Packing.{unpacking}
use Rattle.vob_block.proofs.NeedLemmas.{need_enough}
use Rattle.vob_store.proofs.SplatLemmas.{unpacking-splat}
use Rattle.vob_store.proofs.fill.fill.Goals as goal

pub mask_last-requires : goal.mask_last-requires
mask_last-requires g c = c.fill_blocks.auto.blocks
    ∙ sym (length-map c.args.blocks.now g.T.BitBlock.number) ∙ c.requires.count

pub returns : goal.returns
returns g c =
    let w = g.T.BitBlock.BITS in
    let number = g.T.BitBlock.number in
    let splat = c.fill_blocks.ensures in
    let blocks = length c.args.blocks.now in
    let enough : c.args.len ≤ blocks * w = rw (← c.requires.count, length-map) at
    (need_enough w g.met.T.BitBlock.wide_law c.args.len) in
    record {
      canonical = c.mask_last.ensures.canonical;
      bits = c.mask_last.ensures.bits ∙ ap (λ xs. unpacking c.args.len (map number xs) w) splat.1
          ∙ unpacking-splat number w g.met.T.BitBlock.wide_law blocks c.args.value splat.0 splat.2
          c.args.len enough;
    }
