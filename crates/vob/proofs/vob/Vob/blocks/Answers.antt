-- Canonical storage is the packing of the list that it unpacks to, which is as long.
use Rattle.std.proofs.Common.{◌∙◌, sym, ap, map}
use Rattle.vob_block.specs.Packing.{packing}
use Rattle.vob_block.proofs.PackingLemmas.{length-unpacking, packing-unpacking}
use Rattle.vob.proofs.vob.Vob.blocks.Goals as goal

pub returns-clause-blocks : goal.returns-clause-blocks
returns-clause-blocks g c =
    let w = g.T.BitBlock.BITS in
    ap (map g.T.BitBlock.number) (c.new.ensures.items ∙ c.as_slice.ensures.value)
    ∙ sym (packing-unpacking w g.met.T.BitBlock.wide_law c.self.inside.len _ c.self.invariant)
    ∙ ap (λ v. packing v.bits w) c.self.view_is

pub returns-clause-canonical : goal.returns-clause-canonical
returns-clause-canonical g c =
    let same = c.new.ensures.items ∙ c.as_slice.ensures.value in
    rw (same, ← c.self.view_is, length-unpacking) c.self.invariant
