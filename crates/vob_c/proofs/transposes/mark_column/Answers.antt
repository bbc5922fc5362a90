-- The walk gives the next index of a set bit, which is that of a row.
use Rattle.std.specs.declared.ops.Bound.TheVariants.{Unbounded}
use Rattle.std.proofs.Common.{◌∙◌, List, ℕ, true, map, ap, sym, arith}
use Rattle.vob_block.specs.Packing.{unpacking}
use Rattle.vob_matrix.proofs.MatrixLemmas.{AreMarkedBut-start, AreMarkedBut-more, next_inside}
use Rattle.vob_walk.specs.Matches.{matches}
use Rattle.vob_c.proofs.RowsLemmas.{length-rows_in, row_here}
use Rattle.vob_c.proofs.transposes.mark_column.Goals as goal

pub loop-j-init : goal.loop-j-init
loop-j-init c = record {
  can_next = tt;
  is_finite = tt;
  canonical = c.requires.made;
  marked = AreMarkedBut-start _ _ _ _ (ap (λ walk. walk.rest)
      c.into_iter-j-iterator.ensures.into_iter_gives ∙ (c.over-j-items.ensures.whole tt).rest
      ∙ ap (λ bits. matches bits true Unbounded Unbounded)
      (ap (λ (ys : List ℕ). unpacking c.args.columns (map (λ x. x) ys) 64)
      (c.new.ensures.items ∙ c.words_at-row.ensures)
      ∙ (row_here c.args.rows c.args.columns c.args.words.now c.requires.words _ c.block_count.ensures
      c.args.i c.requires.row).bits));
}

pub mark_at-requires-clause-row : goal.mark_at-requires-clause-row
mark_at-requires-clause-row c =
    let long = (row_here c.args.rows c.args.columns c.args.words.now c.requires.words _
    c.block_count.ensures c.args.i c.requires.row).long in
    omega (
      arith,
      next_inside _ _ _ _ _ _ _ c.in-Some.ensures.steps.gives
          (long ∙ sym (length-rows_in c.args.columns c.args.rows c.args.made.now))
          c.loop-j.invariant.marked,
      length-rows_in c.args.columns c.args.rows c.loop-j.made,
    )

pub loop-j-preserved : goal.loop-j-preserved
loop-j-preserved c = record {
  can_next = tt;
  is_finite = tt;
  canonical = c.mark_at.ensures.canonical;
  marked = AreMarkedBut-more _ _ _ _ _ c.in-Some.j _ _ c.in-Some.ensures.steps.gives
      c.loop-j.invariant.marked c.mark_at.ensures.written;
}
