-- The edges by the rules so far.
use Rattle.std.proofs.Common.{[], take}
use Rattle.vob_lr.specs.Units.{GainEdges, IsByOne, IsUnitBy}
use Rattle.vob_lr.proofs.cycles.units.Given as goal

abbrev pub invariant-loop-rule : goal.invariant-loop-rule
invariant-loop-rule l = GainEdges (IsByOne (IsUnitBy l.nullable.bits) (take l.rule-index l.rules)) [] l.edges.items
