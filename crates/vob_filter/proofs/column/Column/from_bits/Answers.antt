-- What isn't present isn't true.
use Rattle.std.proofs.Common.{◌∙◌}
use Rattle.vob_filter.proofs.ColumnLemmas.{AreColumn-masked, values_of-masked}
use Rattle.vob_filter.proofs.column.Column.from_bits.Goals as goal

pub column_of-requires : goal.column_of-requires
column_of-requires c = AreColumn-masked _ _ _ c.requires c.and.ensures.each

pub returns : goal.returns
returns c = c.column_of.ensures ∙ values_of-masked _ _ _ c.requires c.and.ensures.each
