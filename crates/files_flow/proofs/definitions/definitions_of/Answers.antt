-- The definitions of one node more.
use Rattle.std.proofs.Common.{◌∙◌, [], sym}
use Rattle.std.proofs.lemmas.List.{get_or-map}
use Rattle.vob_flow.specs.declared.live.Flow.{Flow}
use Rattle.files_flow.proofs.DefinitionLemmas.{definitions_more}
use Rattle.files_flow.proofs.definitions.definitions_of.Goals as goal

pub loop-node-preserved : goal.loop-node-preserved
loop-node-preserved c =
    let nodes = c.args.nodes.now in
    let own = get_or-map (λ (node : Flow). node.writes.items) nodes c.loop-node.node c.index-nodes-node.result []
    c.loop-node-test.true ∙ sym c.deref.ensures.value in
    definitions_more nodes c.loop-node.node _ _ c.loop-node.invariant
    (rw own c.in_ok-add_writes.ensures)
