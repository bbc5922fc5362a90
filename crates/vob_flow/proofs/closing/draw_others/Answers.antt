-- The set gets what is at the root of one component more.
use Rattle.std.proofs.Common.{◌<◌, ◌∙◌, [], length, get_or, refl, sym, arith}
use Rattle.vob_flow.proofs.ClosureLemmas.{IsDrawnBy-more, IsDrawnBy-same}
use Rattle.vob_flow.proofs.GatherLemmas.{Gets-or}
use Rattle.vob_flow.proofs.closing.draw_others.Goals as goal
use Rattle.vob_flow.proofs.closing.draw_others.Goals.{then-other-root, else-other-root}

pub loop-end-preserved : goal.loop-end-preserved
loop-end-preserved c =
    let h = c.loop-end.invariant in
    let mid = c.loop-end.sets.rows in
    let ends = c.args.ends.now in
    let root = c.args.root in
    let k = c.loop-end.end-index in
    let end = get_or ends k 0 in
    let other = get_or c.args.roots.now end 0 in
    let here : root < length mid = omega (arith, c.requires.root, h.drawn.shape.count) in
    let less : other < length mid =
    omega (arith, c.requires.roots end 0 (c.requires.ends k 0 c.loop-end-test.true), h.drawn.shape.count) in
    let long = c.columns-columns.ensures.long in
    elim c.if-other-root.branch [
      | then-other-root w ↦ rw w.sets-is record {
        drawn = IsDrawnBy-more _ _ root ends k end c.loop-end-test.true refl mid h.drawn other refl
            w.if-other-root.true _ (Gets-or mid root other here
            (long root [] here ∙ sym (long other [] less)) w.or_row.ensures.rows);
        columns = w.or_row.ensures.columns ∙ h.columns;
      }
      | else-other-root w ↦ rw w.sets-is record {
        drawn = IsDrawnBy-same _ _ root ends k end c.loop-end-test.true refl mid h.drawn
            w.if-other-root.false;
        columns = h.columns;
      }
    ]
