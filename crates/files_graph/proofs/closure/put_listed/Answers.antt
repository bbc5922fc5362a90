-- The line of the next edge is written.
use Rattle.std.proofs.Common.{refl}
use Rattle.std.proofs.lemmas.List.{drop_more, drop_all}
use Rattle.files_text.proofs.PrintedLemmas.{items_all, items_more, items_none}
use Rattle.files_graph.proofs.closure.put_listed.Goals as goal

pub loop-from-init : goal.loop-from-init
loop-from-init g c = items_all _ _ _ _ refl

pub loop-from-preserved : goal.loop-from-preserved
loop-from-preserved g c =
    items_more _ _ _ _ _ _ _ _ (drop_more c.args.edges.now c.loop-from.from-index (0, 0) c.loop-from-test.true)
    c.loop-from.invariant c.in_ok-put_edge.ensures

pub returns : goal.returns
returns g c = items_none _ _ _ _ _ (drop_all c.loop-from.from-index c.args.edges.now c.loop-from-test.false) c.loop-from.invariant
