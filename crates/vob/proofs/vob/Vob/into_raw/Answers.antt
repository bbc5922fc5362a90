-- Canonical storage is as long as the list that it unpacks to, and its packing.
use Rattle.std.proofs.Common.{◌∙◌, sym, ap, length}
use Rattle.vob_block.specs.Packing.{packing}
use Rattle.vob_block.proofs.PackingLemmas.{length-unpacking, packing-unpacking}
use Rattle.vob.proofs.vob.Vob.into_raw.Goals as goal

pub returns-clause-len : goal.returns-clause-len
returns-clause-len g c = sym (length-unpacking _ _ _) ∙ ap (λ v. length v.bits) c.self.view_is

pub returns-clause-blocks : goal.returns-clause-blocks
returns-clause-blocks g c =
    let w = g.T.BitBlock.BITS in
    sym (packing-unpacking w g.met.T.BitBlock.wide_law c.self.inside.len _ c.self.invariant)
    ∙ ap (λ v. packing v.bits w) c.self.view_is
