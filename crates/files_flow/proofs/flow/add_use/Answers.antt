-- The lists of the node have the number.
use Rattle.std.proofs.Common.{get_or}
use Rattle.std.proofs.lemmas.Option.{slice_get-get_or}
use Rattle.files_flow.specs.Nodes.{mention_of}
use Rattle.files_flow.proofs.NumberLemmas.{have_more}
use Rattle.files_flow.proofs.flow.add_use.Goals as goal

pub returns-clause-ok : goal.returns-clause-ok
returns-clause-ok c mentions distinct said =
    let nodes = c.args.nodes.now in
    let n = c.args.said.now.node in
    have_more c.args.names.now c.args.variables.now _ nodes distinct (mention_of c.args.said.now)
    c.in_ok-number.number (get_or nodes n c.index-nodes-said.result) c.add_to_flow.new.flow mentions
    c.in_ok-number.ensures.variables c.in_ok-number.ensures.ok
    (slice_get-get_or nodes n c.index-nodes-said.result c.requires) c.in_ok-add_to_flow.ensures said
