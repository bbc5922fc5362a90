-- The rows are cut in two parts, one of the two in either.
use Rattle.std.proofs.Common.{sym, subst, map, refl, ◌∙◌, ◌||◌, arith, List}
use Rattle.vob_block.specs.Pointwise.{IsPointwise}
use Rattle.vob_rows.proofs.PartLemmas.{at_low, at_high, combined_low, combined_high}
use Rattle.vob_rows.proofs.part.or_rows_combined.Goals as goal

pub returns-then-into-from : goal.returns-then-into-from
returns-then-into-from g c = λ both is.
    let number = g.T.BitBlock.number in
    let w = g.T.BitBlock.BITS in
    let cut = c.split_at_mut-low.ensures in
    combined_low number w c.args.count c.args.blocks.now _ _ cut.value c.args.from cut.front_len
    ◌||◌ both both refl _ _ c.args.into c.if-into-from.true (c.or_combined_at.ensures both
    (subst (λ (ys : List _). IsPointwise w g.C.Combine.of_bits (map number ys)
    (map number c.args.other.now) both) (sym (c.row_blocks.ensures ∙ at_high number w c.args.count
    c.args.blocks.now _ _ cut.value c.args.from cut.front_len)) is))

pub returns-else-into-from : goal.returns-else-into-from
returns-else-into-from g c = λ both is.
    let number = g.T.BitBlock.number in
    let w = g.T.BitBlock.BITS in
    let cut = c.split_at_mut-low-else-into-from.ensures in
    combined_high number w c.args.count c.args.blocks.now _ _ cut.value c.args.into cut.front_len
    ◌||◌ both both refl _ _ (c.or_combined_at-else-into-from.ensures both
    (subst (λ (ys : List _). IsPointwise w g.C.Combine.of_bits (map number ys)
    (map number c.args.other.now) both) (sym (c.row_blocks-else-into-from.ensures
    ∙ at_low number w c.args.count c.args.blocks.now _ _ cut.value c.args.into cut.front_len
    c.args.from (omega (arith, c.if-into-from.false, c.requires.apart)))) is))
