-- The blocks unpack to the bits, and the bytes are the packing of these. The number of a block of this
-- type is the block.
use Rattle.std.proofs.Common.{◌∙◌, sym, ap, length, map-id}
use Rattle.vob_block.specs.Packing.{unpacking}
use Rattle.vob_block.proofs.PackingLemmas.{length-unpacking}
use Rattle.vob.proofs.LowBytesLemmas.{packed_count, packed_each}
use Rattle.vob.proofs.le_bytes.Vob+usize.to_le_bytes.Goals as goal

pub returns-clause-count : goal.returns-clause-count
returns-clause-count c =
    let s = c.self.inside in
    let bits = ap (λ xs. unpacking s.len xs 64)
    (c.as_slice.ensures.value ∙ sym (map-id s.vec.items)) ∙ ap (λ v. v.bits) c.self.view_is in
    packed_count c.low_block_bytes.result (λ bytes. bytes.items) _ _ bits c.low_block_bytes.ensures.bytes

pub returns-clause-each : goal.returns-clause-each
returns-clause-each c =
    let s = c.self.inside in
    let bits = ap (λ xs. unpacking s.len xs 64)
    (c.as_slice.ensures.value ∙ sym (map-id s.vec.items)) ∙ ap (λ v. v.bits) c.self.view_is in
    packed_each c.low_block_bytes.result (λ bytes. bytes.items) _ _ bits c.low_block_bytes.ensures.bytes

pub returns-clause-nothing : goal.returns-clause-nothing
returns-clause-nothing c = λ none.
    let s = c.self.inside in
    let len = sym (length-unpacking s.len _ 64) ∙ ap (λ v. length v.bits) c.self.view_is in
    c.low_block_bytes.ensures.nothing (len ∙ ap length none)
