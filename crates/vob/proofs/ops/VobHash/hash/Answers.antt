-- The blocks are the packing of the list, and feed what their numbers do.
use Rattle.std.specs.List.{flat_map, fold}
use Rattle.std.proofs.Common.{◌≡◌, ◌∙◌, ap, sym, map}
use Rattle.vob_block.specs.Packing.{packing}
use Rattle.vob_block.proofs.PackingLemmas.{packing-unpacking}
use Rattle.vob.proofs.HashLemmas.{words_from_numbers}
use Rattle.vob.proofs.ops.VobHash.hash.Goals as goal

pub returns : goal.returns
returns g c =
    let number = g.T.BitBlock.number in
    let fed = g.T.Hash.hash_input in
    let block_of = g.T.BitBlock.of_bits in
    let w = g.T.BitBlock.BITS in
    let items = c.self.inside.vec.items in
    let bit_at : map number items ≡ packing c.args.self.now.bits w =
    sym (packing-unpacking w g.met.T.BitBlock.wide_law c.self.inside.len _ c.self.invariant)
    ∙ ap (λ v. packing v.bits w) c.self.view_is in
    c.hash_slice.ensures ∙ ap (fold g.H.Hasher.write c.args.state.now) (
    ap (flat_map fed) c.as_slice.ensures.value
    ∙ words_from_numbers number block_of fed w g.met.T.BitBlock.of_bits_number_law
    g.met.T.BitBlock.hash_law items c.self.invariant.within
    ∙ ap (flat_map (λ n. fed (block_of n))) bit_at
    )
