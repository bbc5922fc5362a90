-- The members of the sets so far.
use Rattle.std.proofs.Common.{◌≡◌}
use Rattle.vob_flow.specs.Lists.{lists_of}
use Rattle.vob_lr.specs.Nodes.{AreOffsets, members_of}
use Rattle.vob_lr.proofs.nodes.offsets_of.Given as goal

abbrev pub invariant-loop-state : goal.invariant-loop-state
invariant-loop-state l = record {
  offsets : AreOffsets (lists_of l.sets) l.state l.offsets.items;
  total : l.total ≡ members_of (lists_of l.sets) l.state;
}
