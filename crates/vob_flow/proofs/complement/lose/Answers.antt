-- The greatest sets are the complements of the least ones of what they lack.
use Rattle.std.proofs.Common.{◌∙◌, sym}
use Rattle.vob_flow.proofs.GreatestLemmas.{AreGreatest-turned}
use Rattle.vob_flow.proofs.LosingLemmas.{IsPassCount-lacking}
use Rattle.vob_flow.proofs.complement.lose.Goals as goal

pub settle-passes-requires-clause-count : goal.settle-passes-requires-clause-count
settle-passes-requires-clause-count c = c.requires.count ∙ sym c.turn_starts.ensures.lacking.shape.count

pub settle-passes-requires-clause-masks : goal.settle-passes-requires-clause-masks
settle-passes-requires-clause-masks c = rw c.requires.starts
    (sym c.turn_starts.ensures.lacking.shape.count, sym c.turn_starts.ensures.columns)

pub returns-clause-greatest : goal.returns-clause-greatest
returns-clause-greatest c = AreGreatest-turned _ _ _ _ _ _ _ c.requires.count
    (rw c.columns-columns.ensures.columns at c.columns-columns.ensures.long)
    (rw c.nodes-nodes.ensures.count at c.nodes-nodes.ensures.inside) c.turn_starts.ensures.lacking
    (rw c.requires.starts at c.settle-passes.ensures.least) c.negate_each.ensures.negated

pub returns-clause-passes : goal.returns-clause-passes
returns-clause-passes c = IsPassCount-lacking _ _ _ _ _ c.requires.count
    (rw c.columns-columns.ensures.columns at c.columns-columns.ensures.long)
    (rw c.nodes-nodes.ensures.count at c.nodes-nodes.ensures.inside) c.turn_starts.ensures.lacking _ _ _
    c.settle-passes.ensures.least.solution.shape (rw c.requires.starts at c.settle-passes.ensures.passes)
    c.negate_each.ensures.negated
