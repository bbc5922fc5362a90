-- No rows have no blocks, and no blocks take no memory.
use Rattle.std.proofs.Common.{◌++◌, ◌*◌, ◌∙◌, sym, ap, length, arith, ◌≡◌}
use Rattle.std.proofs.lemmas.List.{length-map}
use Rattle.std.proofs.lemmas.Bool.{false≢true}
use Rattle.vob_block.specs.Packing.{need}
use Rattle.vob_rows.proofs.PartLemmas.{length-unpacked_rows}
use Rattle.vob_rows.proofs.rows.BitRows.clone.Goals as goal

pub returns-in_err-blocks-clause-nothing : goal.returns-in_err-blocks-clause-nothing
returns-in_err-blocks-clause-nothing g c = λ none.
    let r = c.self.inside in
    let number = g.T.BitBlock.number in
    let w = g.T.BitBlock.BITS in
    let no_row = sym (length-unpacked_rows number w r.rows r.columns r.blocks.items)
    ∙ ap (λ v. length v.rows) c.self.view_is ∙ ap length none in
    let blocks : length r.blocks.items ≡ 0 = sym (length-map r.blocks.items number) ∙ c.self.invariant.count
    ∙ ap (λ n. n * need r.columns w) no_row ∙ omega arith in
    absurd (false≢true (c.in_err-blocks.ensures.succeeds
    (omega (arith, blocks, r.blocks.ok, c.len.ensures))))

pub invariant_of-result : goal.invariant_of-result
invariant_of-result g c =
    let same = c.in_ok-extend_from_slice.ensures.items
    ∙ ap (λ xs. xs ++ c.as_slice.result.now) c.in_ok-blocks.ensures.items ∙ c.as_slice.ensures.value in
    rw same c.self.invariant

pub returns-clause-rows : goal.returns-clause-rows
returns-clause-rows g c =
    let same = c.in_ok-extend_from_slice.ensures.items
    ∙ ap (λ xs. xs ++ c.as_slice.result.now) c.in_ok-blocks.ensures.items ∙ c.as_slice.ensures.value in
    rw same c.self.view_is
