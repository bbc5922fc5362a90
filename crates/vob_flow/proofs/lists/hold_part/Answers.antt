-- The far sides are the greatest sets, and the near ones what they have in common.
use Rattle.std.proofs.Common.{◌∙◌, length, sym, subst}
use Rattle.vob_flow.proofs.PartsLemmas.{hold_far, hold_near}
use Rattle.vob_flow.specs.Draws.{mask_of}
use Rattle.vob_flow.proofs.lists.hold_part.Goals as goal

pub returns-clause-far : goal.returns-clause-far
returns-clause-far c = hold_far (mask_of c.args.masks) _ c.requires.count
    (rw c.columns-columns.ensures.columns at c.columns-columns.ensures.long) c.args.entry
    c.lose.ensures.greatest

pub returns-clause-near : goal.returns-clause-near
returns-clause-near c = hold_near (mask_of c.args.masks) _ c.requires.count
    (rw c.columns-columns.ensures.columns at c.columns-columns.ensures.long) c.args.entry
    c.lose.ensures.greatest _ _
    (rw c.nodes-nodes.ensures.count at c.nodes-nodes.ensures.inside)
    (rw c.in_ok-near.ensures.rows at c.intersect_each.ensures.common) c.clear_entry.ensures.shape
    c.clear_entry.ensures.cleared
