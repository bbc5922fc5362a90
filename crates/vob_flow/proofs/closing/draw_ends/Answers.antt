-- First the ends, and then the others.
use Rattle.vob_flow.proofs.ClosureLemmas.{Gets-ends}
use Rattle.vob_flow.proofs.GatherLemmas.{Gets-indices}
use Rattle.vob_flow.proofs.closing.draw_ends.Goals as goal

pub returns-clause-drawn : goal.returns-clause-drawn
returns-clause-drawn c = Gets-ends _ _ c.args.root _ _ _
    (Gets-indices c.args.root _ c.requires.root c.set_indices.ensures.rows c.set_indices.ensures.set)
    c.draw_others.ensures.drawn
