-- An edge more.
use Rattle.std.proofs.Common.{◌∷◌, ◌++◌, [], arith, get_or, take}
use Rattle.std.proofs.lemmas.List.{take_all, take_more}
use Rattle.std.proofs.lemmas.List.Elements.{Contains-get_or}
use Rattle.files_graph.specs.Parts.{JoinsFirsts}
use Rattle.files_graph.proofs.EdgeLemmas.{gain_push, join_push}
use Rattle.files_graph.proofs.reduction.put_between.Goals as goal

pub put_joined-requires-clause-from : goal.put_joined-requires-clause-from
put_joined-requires-clause-from c =
    let links = c.args.links.now in
    (c.requires _ _ (Contains-get_or links c.loop-at.at (0, 0) c.loop-at-test.true)).0

pub put_joined-requires-clause-to : goal.put_joined-requires-clause-to
put_joined-requires-clause-to c =
    let links = c.args.links.now in
    (c.requires _ _ (Contains-get_or links c.loop-at.at (0, 0) c.loop-at-test.true)).1

pub loop-at-preserved : goal.loop-at-preserved
loop-at-preserved c =
    let links = c.args.links.now in
    let k = c.loop-at.at in
    let link = get_or links k (0, 0) in
    let firsts = c.args.firsts.now in
    rw (take_more links k (0, 0) c.loop-at-test.true) (gain_push c.args.edges.now.items c.loop-at.edges.items
    c.loop-at.invariant c.put_joined.new.edges.items _ _ (JoinsFirsts (take k links ++ link ∷ []) firsts)
    c.in_ok-put_joined.ensures (join_push (take k links) firsts link.0 link.1))

pub returns : goal.returns
returns c = rw (take_all c.loop-at.at c.args.links.now (omega (arith, c.loop-at-test.false))) at c.loop-at.invariant
