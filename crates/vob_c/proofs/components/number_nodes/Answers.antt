-- The graph is that of the arrays, and all of its nodes have numbers.
use Rattle.std.proofs.Common.{◌<◌, ◌∙◌, ℕ, List, ap, length, subst, sym, arith}
use Rattle.vob_flow.specs.Components.{component_of}
use Rattle.vob_c.specs.Components.{AreNumbered, AreTurned, number_of}
use Rattle.vob_c.proofs.ComponentLemmas.{number_below, numbered}
use Rattle.vob_c.proofs.components.number_nodes.Goals as goal

pub write_numbers-requires-clause-below : goal.write_numbers-requires-clause-below
write_numbers-requires-clause-below c = λ n less.
    let numbers = c.in_ok-numbers.numbers.items in
    let count = c.in_ok-numbers.count in
    subst (λ (ns : List ℕ). number_of ns (component_of c.deref.result.now n) < count)
    (sym c.deref-2.ensures.value)
    (subst (λ (rs : List ℕ). number_of numbers (component_of rs n) < count) (sym c.deref.ensures.value)
    (number_below c.in_ok-graph.graph c.in_ok-found.found c.in_ok-found.ensures numbers count
    c.in_ok-numbers.ensures n
    (omega (arith, less, ap length c.deref.ensures.value, c.in_ok-found.ensures.count))))

pub returns-clause-numbered : goal.returns-clause-numbered
returns-clause-numbered c =
    let roots = c.in_ok-found.found.roots.items in
    let numbers = c.in_ok-numbers.numbers.items in
    let count = c.in_ok-numbers.count in
    let new = c.write_numbers.new.component in
    let turned : AreTurned roots numbers count new =
    subst (λ (ns : List ℕ). AreTurned roots ns count new) c.deref-2.ensures.value
    (subst (λ (rs : List ℕ). AreTurned rs c.deref-2.result.now count new) c.deref.ensures.value
    c.write_numbers.ensures) in
    subst (λ (lists : List (List ℕ)). AreNumbered lists new count) c.in_ok-graph.ensures.lists
    (numbered c.in_ok-graph.graph c.in_ok-found.found c.in_ok-found.ensures numbers count
    c.in_ok-numbers.ensures new (c.write_numbers.auto.component ∙ sym c.in_ok-graph.ensures.count) turned)
