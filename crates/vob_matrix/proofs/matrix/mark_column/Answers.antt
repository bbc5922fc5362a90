-- The walk gives the next index of a set bit, which is that of a row.
use Rattle.std.proofs.Common.{◌∙◌, [], true, refl, ap, arith}
use Rattle.vob_matrix.proofs.ShapeLemmas.{IsEntryWritten-at}
use Rattle.vob_matrix.proofs.MatrixLemmas.{AreMarkedBut-start, AreMarkedBut-more, next_inside}
use Rattle.vob_matrix.proofs.matrix.mark_column.Goals as goal

pub loop-row-init : goal.loop-row-init
loop-row-init c = record {
  can_next = tt;
  is_finite = tt;
  marked = AreMarkedBut-start _ _ _ _ (ap (λ walk. walk.rest)
      c.into_iter-row-iterator.ensures.into_iter_gives
      ∙ (c.iter_set_bits-row-items.ensures.fresh tt).whole.rest);
  columns = refl;
}

pub set-requires-clause-row : goal.set-requires-clause-row
set-requires-clause-row c = next_inside _ _ _ _ _ _ _ c.in-Some.ensures.steps.gives c.requires.rows
    c.loop-row.invariant.marked

pub loop-row-preserved : goal.loop-row-preserved
loop-row-preserved c =
    let row = c.in-Some.row in
    let gives = c.in-Some.ensures.steps.gives in
    let h = c.loop-row.invariant in
    let inside = next_inside _ _ _ _ _ _ _ gives c.requires.rows h.marked in
    let long = c.columns-columns.ensures.long row [] inside in
    record {
      can_next = tt;
      is_finite = tt;
      marked = AreMarkedBut-more _ _ _ _ _ row _ _ gives h.marked
          (IsEntryWritten-at _ row c.args.column true _ inside
          (omega (arith, long, c.columns-columns.ensures.columns, h.columns, c.requires.inside))
          c.set.ensures.rows);
      columns = c.set.ensures.columns ∙ h.columns;
    }
