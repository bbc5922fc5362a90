-- The edges are those of the rules.
use Rattle.vob_lr.proofs.UnitLemmas.{units_of}
use Rattle.vob_lr.proofs.cycles.unit_graph.Goals as goal

pub returns-in-Ok-clause-units : goal.returns-in-Ok-clause-units
returns-in-Ok-clause-units c =
    units_of c.args.grammar.now c.in_ok-nullable.nullable.bits c.in_ok-nullable.ensures.nullable
    c.in_ok-edges.edges.items c.in-Ok.graph c.requires (rw c.deref.ensures.value at c.in_ok-edges.ensures)
    c.in-Ok.ensures.nodes (rw c.deref-2.ensures.value at c.in-Ok.ensures.each)
