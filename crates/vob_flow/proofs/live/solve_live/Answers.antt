-- What is read draws, from the nodes that come next, what isn't written.
use Rattle.std.proofs.Common.{◌∙◌, sym}
use Rattle.vob_flow.proofs.BlankLemmas.{blank_long, blank_none}
use Rattle.vob_flow.proofs.LiveLemmas.{AreLive-least, keeps_others}
use Rattle.vob_flow.proofs.PassLemmas.{shape_long}
use Rattle.vob_flow.proofs.live.solve_live.Goals as goal

pub solve-requires-clause-count : goal.solve-requires-clause-count
solve-requires-clause-count c = c.in_ok-next.ensures.count ∙ sym c.in_ok-before.ensures.count

pub gather_each-requires-clause-empty : goal.gather_each-requires-clause-empty
gather_each-requires-clause-empty c = rw c.in_ok-after.ensures.rows (blank_none _ _)

pub returns-clause-live : goal.returns-clause-live
returns-clause-live c =
    let reads = c.in_ok-before.ensures in
    AreLive-least c.args.vars c.args.nodes.now _ _ _ c.in_ok-next.ensures record {
      count = reads.count;
      long = rw (c.columns-columns.ensures.columns, reads.columns) at c.columns-columns.ensures.long;
    } reads.reads (keeps_others _ _ c.in_ok-writes.ensures.writes) _ _ c.in_ok-rounds.ensures.least
    c.gather_each.ensures.gathered (shape_long _ _ _ c.gather_each.ensures.shape
    (rw c.in_ok-after.ensures.rows (blank_long _ _))) _ c.in_ok-rounds.ensures.passes
