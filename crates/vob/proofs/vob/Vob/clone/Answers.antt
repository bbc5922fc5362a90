-- An empty list has no blocks, and no blocks take no memory.
use Rattle.std.proofs.Common.{◌++◌, ◌∙◌, sym, ap, length, arith}
use Rattle.std.proofs.lemmas.List.{length-map}
use Rattle.std.proofs.lemmas.Bool.{false≢true}
use Rattle.vob_block.proofs.NeedLemmas.{need-zero}
use Rattle.vob_block.proofs.PackingLemmas.{length-unpacking}
use Rattle.vob_block.specs.Packing.{need}
use Rattle.vob.proofs.vob.Vob.clone.Goals as goal

pub returns-in_err-vec-clause-nothing : goal.returns-in_err-vec-clause-nothing
returns-in_err-vec-clause-nothing g c =
    let w = g.T.BitBlock.BITS in
    let vec = c.self.inside.vec in
    rw (← c.self.view_is) (λ none.
    let zero_len = sym (length-unpacking _ _ _) ∙ ap length none in
    let blocks = sym (length-map vec.items g.T.BitBlock.number) ∙ c.self.invariant.count
    ∙ ap (λ n. need n w) zero_len ∙ need-zero w g.met.T.BitBlock.wide_law in
    absurd (false≢true (c.in_err-vec.ensures.succeeds
    (omega (arith, blocks, vec.ok, c.len.ensures)))))

pub invariant_of-result : goal.invariant_of-result
invariant_of-result g c =
    let same = c.in_ok-extend_from_slice.ensures.items
    ∙ ap (λ xs. xs ++ c.as_slice.result.now) c.in_ok-vec.ensures.items ∙ c.as_slice.ensures.value in
    rw same c.self.invariant

pub returns-clause-bits : goal.returns-clause-bits
returns-clause-bits g c =
    let same = c.in_ok-extend_from_slice.ensures.items
    ∙ ap (λ xs. xs ++ c.as_slice.result.now) c.in_ok-vec.ensures.items ∙ c.as_slice.ensures.value in
    rw same (ap (λ v. v.bits) c.self.view_is)
