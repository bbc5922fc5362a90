-- The ends are the least sets that draw so, and the starts what they draw.
use Rattle.std.proofs.Common.{◌∙◌}
use Rattle.std.proofs.lemmas.List.{length-replicate}
use Rattle.vob_flow.proofs.BlankLemmas.{blank_long, blank_none, shape_from_long}
use Rattle.vob_flow.proofs.ReachingLemmas.{AreReaching-least}
use Rattle.vob_flow.proofs.UnderwayLemmas.{HaveShape-trans}
use Rattle.vob_flow.proofs.reaching.reaching_definitions.Goals as goal

pub gather_each-requires-clause-empty : goal.gather_each-requires-clause-empty
gather_each-requires-clause-empty c = rw c.in_ok-starts.ensures.rows (blank_none _ _)

pub returns-clause-reaching : goal.returns-clause-reaching
returns-clause-reaching c =
    let gens = c.args.ends.now.rows in
    let starts = c.in_ok-starts.ensures.rows in
    AreReaching-least (HaveShape-trans (rw starts (shape_from_long _ gens _ c.columns.ensures.long
    (blank_long _ _) (length-replicate _ _ ∙ c.rows.ensures))) c.gather_each.ensures.shape)
    c.in_ok-solve.ensures.least c.gather_each.ensures.gathered
