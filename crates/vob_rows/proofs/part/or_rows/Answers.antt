-- The rows are cut in two parts, one of the two in either.
use Rattle.std.proofs.Common.{ap, map, ◌∙◌, ◌||◌, arith}
use Rattle.vob_rows.proofs.PartLemmas.{at_low, at_high, combined_low, combined_high}
use Rattle.vob_rows.proofs.part.or_rows.Goals as goal

pub returns-then-into-from : goal.returns-then-into-from
returns-then-into-from g c =
    let number = g.T.BitBlock.number in
    let w = g.T.BitBlock.BITS in
    let cut = c.split_at_mut-low.ensures in
    combined_low number w c.args.count c.args.blocks.now _ _ cut.value c.args.from cut.front_len
    ◌||◌ _ _ (ap (map number) (c.row_blocks.ensures ∙ at_high number w c.args.count
    c.args.blocks.now _ _ cut.value c.args.from cut.front_len)) _ _ c.args.into
    c.if-into-from.true c.combine_at.ensures

pub returns-else-into-from : goal.returns-else-into-from
returns-else-into-from g c =
    let number = g.T.BitBlock.number in
    let w = g.T.BitBlock.BITS in
    let cut = c.split_at_mut-low-else-into-from.ensures in
    combined_high number w c.args.count c.args.blocks.now _ _ cut.value c.args.into cut.front_len
    ◌||◌ _ _ (ap (map number) (c.row_blocks-else-into-from.ensures ∙ at_low number w c.args.count
    c.args.blocks.now _ _ cut.value c.args.into cut.front_len c.args.from
    (omega (arith, c.if-into-from.false, c.requires.apart)))) _ _ c.combine_at-else-into-from.ensures
