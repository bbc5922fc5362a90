-- The bits have room in their blocks.
use Rattle.std.proofs.Common.{◌∙◌, sym, length, arith}
use Rattle.std.proofs.lemmas.List.{length-map}
use Rattle.vob_store.proofs.StorageLemmas.{length-le-room}
use Rattle.vob.proofs.vob.Vob.from_elem_with_storage_type.Goals as goal

pub returns-clause-room : goal.returns-clause-room
returns-clause-room g c =
    let vec = c.in_ok-vec.vec in
    let count = sym (length-map vec.items g.T.BitBlock.number)
    ∙ c.in_ok-vec.ensures.stores.canonical.count in
    length-le-room g.T.BitBlock.BITS g.met.T.BitBlock.wide_law c.args.len (length vec.items) vec.cap
    count (omega (arith, vec.ok)) (omega arith)
