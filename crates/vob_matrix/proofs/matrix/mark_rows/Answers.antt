-- A row is as long as the set, and its bit says whether it meets it.
use Rattle.std.proofs.Common.{◌∙◌, refl, sym, arith}
use Rattle.vob_matrix.proofs.MatrixLemmas.{AreUnitedBefore-more, IsColumnUnion-all}
use Rattle.vob_matrix.proofs.matrix.mark_rows.Goals as goal

pub loop-row-preserved : goal.loop-row-preserved
loop-row-preserved c =
    AreUnitedBefore-more _ _ c.loop-row.row _ _ _ _ _ _ c.row.ensures.bits refl
    (rw c.of-columns.ensures at c.is_disjoint-apart.ensures.answer)
    (rw c.of-columns.ensures at c.is_disjoint-apart.ensures.shared)
    c.loop-row.invariant c.set.ensures.written

pub returns : goal.returns
returns c = IsColumnUnion-all _ _ c.loop-row.row _ _ (omega arith) c.requires.count
    c.loop-row.invariant
