-- No place differs exactly if the blocks are the same.
use Rattle.std.proofs.Common.{ℕ, map, sym, subst, ◌∙◌}
use Rattle.std.proofs.lemmas.List.{length-map}
use Rattle.vob_block.specs.Pointwise.{differ}
use Rattle.vob_store.specs.Combined.{HaveNone}
use Rattle.vob_store.proofs.CombinedLemmas.{HaveNone-differ}
use Rattle.vob_store.proofs.same.same_blocks.Goals as goal

pub returns : goal.returns
returns g c =
    let number = g.T.BitBlock.number in
    let w = g.T.BitBlock.BITS in
    let xs = map number c.args.blocks.now in
    let ys = map number c.args.others.now in
    let all = length-map c.args.blocks.now number in
    let none_up_to = λ (n : ℕ). HaveNone differ w 0 n xs ys in
    let same = HaveNone-differ w g.met.T.BitBlock.wide_law xs ys
    (all ∙ c.requires ∙ sym (length-map c.args.others.now number))
    c.all_in_range.ensures c.all_in_range-2.ensures in
    let none = rw c.new.ensures.items at c.has_none.ensures.none in (
      λ yes. same.0 (subst none_up_to (sym all) (none.0 yes)),
      λ e. none.1 (subst none_up_to all (same.1 e)),
    )
