-- The blocks hold the bits of the bytes. The number of a block of this type is the block.
use Rattle.std.specs.Prelude.{All}
use Rattle.std.proofs.Common.{◌∙◌, ◌*◌, ◌^◌, ◌<◌, ℕ, List, ap, subst, length, map-id}
use Rattle.vob_block.specs.Packing.{packing, unpacking}
use Rattle.vob.proofs.LowBytesLemmas.{packing-bytes}
use Rattle.vob.proofs.le_bytes.Vob+usize.from_le_bytes.Goals as goal

pub returns-clause-back : goal.returns-clause-back
returns-clause-back c =
    let bytes = c.args.slice.now in
    let small = subst (λ (xs : List ℕ). All (λ x. x < 2 ^ 8) xs) (map-id bytes)
    c.all_in_range.ensures in
    ap (λ xs. packing (unpacking (8 * length bytes) xs 64) 8) (map-id c.in_ok-vec.vec.items)
    ∙ ap (λ bits. packing bits 8) c.in_ok-vec.ensures.stores.bits ∙ packing-bytes bytes small
