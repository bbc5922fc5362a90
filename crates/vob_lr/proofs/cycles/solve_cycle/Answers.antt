-- From a nonterminal that derives itself an edge leads back, and only from those.
use Rattle.std.proofs.lemmas.Option.{IfSome_then}
use Rattle.vob_lr.proofs.CycleLemmas.{if_none_then, lowest_cycle, no_cycle}
use Rattle.vob_lr.proofs.cycles.solve_cycle.Goals as goal

pub returns-clause-some : goal.returns-clause-some
returns-clause-some c =
    let graph = c.in_ok-graph.ensures in
    let parts = c.in_ok-parts.ensures in
    let some = c.lowest_back.ensures.some in
    IfSome_then c.lowest_back.result (rw c.deref.ensures.value at some)
    (lowest_cycle c.args.grammar.now c.in_ok-graph.graph c.in_ok-parts.parts c.requires graph.units graph.nodes parts)

pub returns-clause-none : goal.returns-clause-none
returns-clause-none c =
    let graph = c.in_ok-graph.ensures in
    let parts = c.in_ok-parts.ensures in
    let none = c.lowest_back.ensures.none in
    if_none_then c.lowest_back.result
    (no_cycle c.args.grammar.now c.in_ok-graph.graph c.in_ok-parts.parts c.requires graph.units graph.nodes parts)
    (rw c.deref.ensures.value at none)
