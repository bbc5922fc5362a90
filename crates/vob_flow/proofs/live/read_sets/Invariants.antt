-- The nodes so far have their sets.
use Rattle.std.proofs.Common.{◌≡◌, length}
use Rattle.vob_flow.specs.Changes.{EachGets}
use Rattle.vob_flow.specs.LiveDraws.{Reads}
use Rattle.vob_flow.proofs.BlankLemmas.{blank}
use Rattle.vob_flow.proofs.live.read_sets.Given as goal

abbrev pub invariant-loop-node : goal.invariant-loop-node
invariant-loop-node l =
    EachGets (blank (length l.nodes) l.vars) (Reads l.nodes) l.sets.rows l.node × (l.sets.columns ≡ l.vars)
