-- One node more has its edges.
use Rattle.std.proofs.Common.{◌≡◌, ◌∙◌, ◌<◌, ℕ, Vec, Global, [], Contains, length, get_or, ap, sym, subst, arith}
use Rattle.std.proofs.lemmas.List.{get_or-map, length-map}
use Rattle.vob_flow.specs.Lists.{lists_of}
use Rattle.vob_flow.specs.Touched.{AreSpread}
use Rattle.vob_flow.proofs.SpreadLemmas.{spread_more, spread_none, where_last}
use Rattle.vob_flow.proofs.touched.spread_edges.Goals as goal
use Rattle.vob_flow.proofs.touched.spread_edges.Goals.{After-deref}

list_is : (c : After-deref) → c.deref.result.now ≡ get_or (lists_of c.args.generates.now) c.loop-node.node []
list_is c =
    let node : c.loop-node.node < length c.args.generates.now =
    omega (arith, c.loop-node-test.true, c.nodes-nodes.ensures.count, c.requires.fit) in
    c.deref.ensures.value ∙ ap (λ (v : Vec ℕ Global). v.items) c.index-generates-node.is
    ∙ sym (get_or-map (λ (v : Vec ℕ Global). v.items) c.args.generates.now c.loop-node.node c.index-generates-node.result [] node)

pub push_edges-requires-in-loop-node : goal.push_edges-requires-in-loop-node
push_edges-requires-in-loop-node c = rw (list_is (goal.at.push_edges-requires-in-loop-node c).After-deref) (λ k d less. omega (
  arith,
  c.requires.inside c.loop-node.node [] (omega (
    arith,
    c.loop-node-test.true,
    c.nodes-nodes.ensures.count,
    c.requires.fit,
    length-map c.args.generates.now (λ (v : Vec ℕ Global). v.items),
  )) k d less,
  c.requires.small,
  c.nodes-nodes.ensures.count,
))

pub loop-node-init : goal.loop-node-init
loop-node-init c = spread_none _ _ _ _ _ _

pub loop-node-preserved : goal.loop-node-preserved
loop-node-preserved c =
    let node = c.loop-node.node in
    spread_more c.args.paths c.args.graph.now (lists_of c.args.generates.now) c.args.users.now c.args.places node _ _ _ _ _
    (rw c.next.ensures.ends at c.in_ok-push_edges.ensures)
    (rw (list_is (goal.at.loop-node-preserved c).After-deref, c.nodes-nodes.ensures.count) at c.in_ok-push_edges-2.ensures)
    (rw c.nodes-nodes.ensures.count at c.in_ok-push_where.ensures)
    (where_last c.get_unchecked.result _ _ (λ on. c.in_ok-fed.ensures.each node (sym c.get_unchecked.ensures.item ∙ on)))
    c.loop-node.invariant

pub returns : goal.returns
returns c =
    let all : c.loop-node.node ≡ length c.args.graph.now =
    omega (arith, c.loop-node-test.false, c.loop-node.auto.node-end, c.nodes-nodes.ensures.count) in
    subst (λ k. AreSpread c.args.paths c.args.graph.now (lists_of c.args.generates.now) c.args.users.now c.args.places k
    (λ n m. Contains c.loop-node.edges.items (n, m))) all c.loop-node.invariant
