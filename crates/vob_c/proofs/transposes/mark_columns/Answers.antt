-- Each row marks its column.
use Rattle.std.proofs.Common.{arith}
use Rattle.vob_matrix.proofs.MatrixLemmas.{AreMarkedBefore-more}
use Rattle.vob_c.proofs.LinkingLemmas.{all_marked}
use Rattle.vob_c.proofs.RowsLemmas.{length-rows_in}
use Rattle.vob_c.proofs.transposes.mark_columns.Goals as goal

pub loop-i-preserved : goal.loop-i-preserved
loop-i-preserved c = record {
  canonical = c.mark_column.ensures.canonical;
  marked = AreMarkedBefore-more _ _ c.loop-i.i _ _ c.loop-i.invariant.marked
      c.mark_column.ensures.marked;
}

pub returns-clause-marked : goal.returns-clause-marked
returns-clause-marked c = all_marked _ _ _ c.loop-i.i (omega (
  arith,
  length-rows_in c.args.rows c.args.columns c.args.words.now,
  c.loop-i.auto.i-end,
)) c.loop-i.invariant.marked
