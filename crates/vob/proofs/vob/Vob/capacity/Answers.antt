-- The bits have room in their blocks, and these in the vector.
use Rattle.std.proofs.Common.{◌∙◌, sym, length, arith}
use Rattle.std.proofs.lemmas.List.{length-map}
use Rattle.vob_block.proofs.PackingLemmas.{length-unpacking}
use Rattle.vob_store.proofs.StorageLemmas.{length-le-room}
use Rattle.vob.proofs.vob.Vob.capacity.Goals as goal

pub returns-clause-within : goal.returns-clause-within
returns-clause-within g c =
    let vec = c.self.inside.vec in
    let count = sym (length-map vec.items g.T.BitBlock.number) ∙ c.self.invariant.count in
    rw (
      c.saturating_mul.ensures,
      c.capacity.ensures,
      c.BITS.ensures,
      ← c.self.view_is,
      length-unpacking,
    )
    (length-le-room g.T.BitBlock.BITS g.met.T.BitBlock.wide_law c.self.inside.len (length vec.items)
    vec.cap count (omega (arith, vec.ok)) (omega arith))
