-- One node's set more.
use Rattle.std.proofs.Common.{◌≡◌, ◌∙◌, ◌<◌, length, arith}
use Rattle.vob_flow.specs.LiveDraws.{Writes}
use Rattle.vob_flow.proofs.BlankLemmas.{blank_count, blank_each}
use Rattle.vob_flow.proofs.ChangesLemmas.{EachGets-next}
use Rattle.vob_flow.proofs.GatherLemmas.{Gets-indices}
use Rattle.vob_flow.proofs.LiveLemmas.{Gets-named, names_inside}
use Rattle.vob_flow.proofs.live.write_sets.Goals as goal

pub set_indices-requires-clause-columns : goal.set_indices-requires-clause-columns
set_indices-requires-clause-columns c = rw (c.deref.ensures.value, c.loop-node.invariant.1)
    ((c.requires c.loop-node.node c.index-nodes-node.result c.loop-node-test.true).0.1)

pub loop-node-preserved : goal.loop-node-preserved
loop-node-preserved c =
    let there : c.loop-node.node < length c.loop-node.sets.rows =
    omega (arith, c.loop-node-test.true, blank_count _ _ c.loop-node.invariant.0) in (
      EachGets-next (Writes c.args.nodes.now) c.loop-node.invariant.0 (Gets-named (λ flow. flow.writes.items)
          c.args.nodes.now _ c.index-nodes-node.result c.loop-node-test.true
          (Gets-indices c.loop-node.node _ there c.set_indices.ensures.rows
          (rw c.deref.ensures.value at c.set_indices.ensures.set))),
      c.set_indices.ensures.columns ∙ c.loop-node.invariant.1,
    )

pub returns-clause-writes : goal.returns-clause-writes
returns-clause-writes c =
    let whole : c.loop-node.node ≡ length c.args.nodes.now = omega arith in
    blank_each (length c.args.nodes.now) c.args.vars (Writes c.args.nodes.now)
    (rw whole at c.loop-node.invariant.0) (λ n v names. names_inside _ _ n v names)
