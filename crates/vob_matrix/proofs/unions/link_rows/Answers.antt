-- The union that a row's own bits name is added.
use Rattle.std.proofs.Common.{◌∙◌, sym, arith}
use Rattle.vob_rows.specs.Rows.{row_of}
use Rattle.vob_matrix.proofs.ShapeLemmas.{HaveShapeOf-trans}
use Rattle.vob_matrix.proofs.UnionLemmas.{IsNumberOf, IsNumberOf-loaded, IsNumberOf-same, AreUnions-blank, AreLinkedBefore-more, AreLinked-whole}
use Rattle.vob_matrix.proofs.unions.link_rows.Goals as goal
use Rattle.vob_matrix.proofs.unions.link_rows.Goals.{After-load-named}

names : (c : After-load-named) → IsNumberOf (row_of c.loop-row.rows.rows c.loop-row.row)
    c.args.first c.args.last c.load-named.result
names c =
    IsNumberOf-loaded _ _ c.args.first c.args.last _ c.requires.few (sym c.row.ensures.bits)
    c.load-named.ensures.places c.load-named.ensures.each c.load-named.ensures.within

pub add_union-requires-clause-named : goal.add_union-requires-clause-named
add_union-requires-clause-named c =
    omega (arith, (names (goal.at.add_union-requires-clause-named c).After-load-named).within)

pub loop-row-preserved : goal.loop-row-preserved
loop-row-preserved c =
    let row = c.loop-row.row in
    let number = c.load-named.result in
    let h = c.loop-row.invariant in
    let rows = c.args.rows.now.rows in
    let own = names (goal.at.loop-row-preserved c).After-load-named in
    record {
      shape = HaveShapeOf-trans _ _ _ h.shape c.add_union.ensures.shape;
      columns = c.add_union.ensures.columns ∙ h.columns;
      linked = λ others table.
          let before = h.linked others table in
          AreLinkedBefore-more rows rows others _ _ _ table row number _ _ before
          (IsNumberOf-same _ _ _ _ number (λ j. before.left row j (omega arith)) own)
          (c.add_union.ensures.set (AreUnions-blank rows rows others _ _ _ table));
    }
