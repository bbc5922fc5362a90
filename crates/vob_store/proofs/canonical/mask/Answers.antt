-- What is canonical is the packing of what it unpacks to, and that stays.
use Rattle.std.proofs.Common.{◌∙◌, sym, ap}
use Rattle.vob_block.specs.Packing.{packing}
use Rattle.vob_block.proofs.PackingLemmas.{packing-unpacking}
use Rattle.vob_store.proofs.canonical.mask.Goals as goal

pub returns : goal.returns
returns g c =
    let w = g.T.BitBlock.BITS in
    sym (packing-unpacking w g.met.T.BitBlock.wide_law c.args.len _ c.mask_last.ensures.canonical)
    ∙ ap (λ bits. packing bits w) c.mask_last.ensures.bits
