-- The list that canonical storage spells is as long as the length says, and has room in its blocks.
use Rattle.std.proofs.Common.{◌∙◌, sym, ap, length, arith}
use Rattle.std.proofs.lemmas.List.{length-map}
use Rattle.vob_block.proofs.PackingLemmas.{length-unpacking}
use Rattle.vob_store.proofs.StorageLemmas.{length-le-room}
use Rattle.vob.proofs.vob.Vob.len.Goals as goal

pub returns-clause-len : goal.returns-clause-len
returns-clause-len g c = sym (length-unpacking _ _ _) ∙ ap (λ v. length v.bits) c.self.view_is

pub returns-clause-within : goal.returns-clause-within
returns-clause-within g c =
    let vec = c.self.inside.vec in
    let count = sym (length-map vec.items g.T.BitBlock.number) ∙ c.self.invariant.count in
    rw (← c.self.view_is) (length-le-room g.T.BitBlock.BITS g.met.T.BitBlock.wide_law c.self.inside.len
    (length vec.items) vec.cap count (omega (arith, vec.ok)) (omega arith))
