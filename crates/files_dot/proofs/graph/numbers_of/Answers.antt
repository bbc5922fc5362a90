-- Both names have numbers.
use Rattle.files_dot.proofs.HeldLemmas.{numbers_step}
use Rattle.files_dot.proofs.graph.numbers_of.Goals as goal

pub edges-preserved : goal.edges-preserved
edges-preserved c =
    numbers_step c.args.names.now c.args.edges.now c.edges.edge-index _ c.edges-test.true c.edges.numbers.items _
    c.in-Some.from c.in-Some-find.to c.edges.invariant c.in-Some.ensures.some c.in-Some-find.ensures.some
    c.in_ok-push.ensures.items
