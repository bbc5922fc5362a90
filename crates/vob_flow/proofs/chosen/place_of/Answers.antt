-- The place that is noted is that of the node, if it stands there.
use Rattle.std.proofs.Common.{get_or, arith}
use Rattle.vob_flow.proofs.SpreadLemmas.{noted_out, noted_there}
use Rattle.vob_flow.proofs.chosen.place_of.Goals as goal

pub returns-then-node-places : goal.returns-then-node-places
returns-then-node-places c = noted_out c.args.nodes.now c.requires.rise c.args.places.now c.requires.noted c.args.node
    (λ low small is. absurd (omega (arith, low, c.if-node-places.true)))

pub returns-then-place-nodes : goal.returns-then-place-nodes
returns-then-place-nodes c = noted_out c.args.nodes.now c.requires.rise c.args.places.now c.requires.noted c.args.node
    (λ low small is. absurd (omega (arith, small, c.if-place-nodes.true)))

pub returns-then-nodes-place : goal.returns-then-nodes-place
returns-then-nodes-place c = noted_out c.args.nodes.now c.requires.rise c.args.places.now c.requires.noted c.args.node
    (λ low small is. c.if-nodes-place.true is)

pub returns : goal.returns
returns c = noted_there c.args.nodes.now c.requires.rise c.args.places.now c.requires.noted c.args.node
    (get_or c.args.places.now c.args.node 0) (omega (arith, c.if-place-nodes.false)) c.if-nodes-place.false
