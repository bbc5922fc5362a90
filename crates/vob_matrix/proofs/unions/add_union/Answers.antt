-- The entry is added to the row, or it is empty.
use Rattle.std.proofs.Common.{refl}
use Rattle.vob_matrix.proofs.ShapeLemmas.{HaveShapeOf-same}
use Rattle.vob_matrix.proofs.UnionLemmas.{IsUnionSet-or, IsUnionSet-blank}
use Rattle.vob_matrix.proofs.unions.add_union.Goals as goal

pub returns-then-named-ne0 : goal.returns-then-named-ne0
returns-then-named-ne0 c =
    let made = IsUnionSet-or _ c.args.row _ _ _ c.requires.row c.or_with.ensures.rows
    (rw c.row.ensures.bits at c.or_with.ensures.each) in
    record { shape = made.shape; columns = c.or_with.ensures.columns; set = λ blank. made }

pub returns-else-named-ne0 : goal.returns-else-named-ne0
returns-else-named-ne0 c = record {
  shape = HaveShapeOf-same _;
  columns = refl;
  set = λ blank. IsUnionSet-blank _ _ c.args.row c.args.named c.if-named-ne0.false blank;
}
