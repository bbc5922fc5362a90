-- The far sides are the least sets that draw so, and the near ones what they draw.
use Rattle.std.proofs.Common.{◌∙◌, length, sym}
use Rattle.vob_flow.proofs.BlankLemmas.{blank_long, blank_none}
use Rattle.vob_flow.proofs.PartsLemmas.{hold_comes, hold_drawn}
use Rattle.vob_flow.proofs.PassLemmas.{shape_long}
use Rattle.vob_flow.specs.Draws.{mask_of}
use Rattle.vob_flow.proofs.lists.draw_part.Goals as goal

pub gather_each-requires-clause-empty : goal.gather_each-requires-clause-empty
gather_each-requires-clause-empty c = rw c.in_ok-near.ensures.rows (blank_none _ _)

pub returns-clause-far : goal.returns-clause-far
returns-clause-far c = hold_comes (mask_of c.args.masks) _ c.requires.count
    (rw c.columns-columns.ensures.columns at c.columns-columns.ensures.long) c.settle.ensures.least

pub returns-clause-near : goal.returns-clause-near
returns-clause-near c = hold_drawn (mask_of c.args.masks) _ c.requires.count
    (rw c.columns-columns.ensures.columns at c.columns-columns.ensures.long) c.settle.ensures.least
    c.gather_each.ensures.gathered (shape_long _ _ _ c.gather_each.ensures.shape
    (rw (c.in_ok-near.ensures.rows, c.columns-columns.ensures.columns) (blank_long _ _)))
