-- The entry is cleared, and gets the other and the row.
use Rattle.std.proofs.Common.{[], ◌∙◌, sym}
use Rattle.vob_matrix.proofs.UnionLemmas.{IsUnionSet-made}
use Rattle.vob_matrix.proofs.unions.set_union.Goals as goal

pub returns-clause-set : goal.returns-clause-set
returns-clause-set c =
    IsUnionSet-made _ _ _ _ c.args.into c.args.from _ _ _ _ c.requires.into c.requires.from
    (sym (c.columns-columns.ensures.long c.args.into [] c.requires.into ∙ c.columns-columns.ensures.columns))
    c.fill_row.ensures.rows c.or_row.ensures.rows c.or_row.ensures.each c.or_with.ensures.rows
    c.or_with.ensures.each
