-- The edges by the symbols so far.
use Rattle.std.proofs.Common.{take}
use Rattle.vob_lr.specs.Units.{GainEdges, IsAlone, IsByOne, total_weight}
use Rattle.vob_lr.proofs.cycles.add_units.Given as goal

abbrev pub invariant-loop-symbol : goal.invariant-loop-symbol
invariant-loop-symbol l =
    GainEdges (IsByOne (IsAlone l.nullable.bits l.rule.left (total_weight l.nullable.bits l.rule.right.items))
    (take l.symbol-index l.rule.right.items)) l.fn.edges.items l.edges.items
