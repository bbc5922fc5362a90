-- Canonical storage is as long as the list that it unpacks to, and its packing. The number of a block of
-- this type is the block.
use Rattle.std.proofs.Common.{◌∙◌, sym, ap, length, lit<, map-id}
use Rattle.vob_block.specs.Packing.{packing}
use Rattle.vob_block.proofs.PackingLemmas.{length-unpacking, packing-unpacking}
use Rattle.vob.proofs.raw.Vob+usize.into_record.Goals as goal

pub returns-clause-len : goal.returns-clause-len
returns-clause-len c = sym (length-unpacking _ _ _) ∙ ap (λ v. length v.bits) c.self.view_is

pub returns-clause-blocks : goal.returns-clause-blocks
returns-clause-blocks c =
    sym (map-id c.self.inside.vec.items) ∙ sym
    (packing-unpacking 64 (lit< tt) c.self.inside.len _ c.self.invariant)
    ∙ ap (λ v. packing v.bits 64) c.self.view_is
