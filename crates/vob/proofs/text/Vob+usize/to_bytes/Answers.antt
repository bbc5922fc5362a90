-- The blocks that are read unpack to the bits, and are as many as the bits need. The number of a block
-- of this type is the block.
use Rattle.std.proofs.Common.{◌≡◌, ◌∙◌, ◌++◌, ◌-◌, ◌*◌, List, Bool, ℕ, false, sym, ap, subst, length, replicate, map-id, IfOk}
use Rattle.vob_block.specs.Bytes.{bytes_list}
use Rattle.vob_block.specs.Packing.{need, unpacking}
use Rattle.vob_block.proofs.PackingLemmas.{length-unpacking}
use Rattle.vob.proofs.text.Vob+usize.to_bytes.Goals as goal

pub returns-clause-bits : goal.returns-clause-bits
returns-clause-bits c =
    let s = c.self.inside in
    let bits = ap (λ xs. unpacking s.len xs 64)
    (c.as_slice.ensures.value ∙ sym (map-id s.vec.items)) ∙ ap (λ v. v.bits) c.self.view_is in
    let len = sym (length-unpacking s.len c.as_slice.result.now 64) ∙ ap length bits in
    subst (λ (xs : List Bool). IfOk c.block_bytes.result (λ bytes. bytes_list bytes.items
    ≡ xs ++ replicate (8 * need (length c.args.self.now.bits) 8 - length c.args.self.now.bits) false))
    bits
    (subst (λ (n : ℕ). IfOk c.block_bytes.result (λ bytes. bytes_list bytes.items
    ≡ unpacking s.len c.as_slice.result.now 64 ++ replicate (8 * need n 8 - n) false))
    len c.block_bytes.ensures.bits)

pub returns-clause-count : goal.returns-clause-count
returns-clause-count c =
    let s = c.self.inside in
    let len = sym (length-unpacking s.len _ 64) ∙ ap (λ v. length v.bits) c.self.view_is in
    subst (λ (n : ℕ). IfOk c.block_bytes.result (λ bytes. length bytes.items ≡ need n 8)) len
    c.block_bytes.ensures.count

pub returns-clause-nothing : goal.returns-clause-nothing
returns-clause-nothing c = λ none.
    let s = c.self.inside in
    let len = sym (length-unpacking s.len _ 64) ∙ ap (λ v. length v.bits) c.self.view_is in
    c.block_bytes.ensures.nothing (len ∙ ap length none)
