-- Canonical storage is the packing of the list that it unpacks to.
use Rattle.std.proofs.Common.{◌∙◌, sym, ap, map}
use Rattle.vob_block.specs.Packing.{packing}
use Rattle.vob_block.proofs.PackingLemmas.{packing-unpacking}
use Rattle.vob.proofs.vob.Vob.get_storage.Goals as goal

pub returns : goal.returns
returns g c =
    let w = g.T.BitBlock.BITS in
    ap (map g.T.BitBlock.number) c.as_slice.ensures.value
    ∙ sym (packing-unpacking w g.met.T.BitBlock.wide_law c.self.inside.len _ c.self.invariant)
    ∙ ap (λ v. packing v.bits w) c.self.view_is
