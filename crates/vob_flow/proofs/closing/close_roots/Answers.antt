-- One node more gives its component what its edges lead to.
use Rattle.std.proofs.Common.{◌≡◌, ◌<◌, ◌∙◌, length, get_or, sym, arith}
use Rattle.std.proofs.lemmas.List.{get_or_default}
use Rattle.vob_flow.specs.Components.{component_of}
use Rattle.vob_flow.proofs.ClosureLemmas.{AreDrawn-more}
use Rattle.vob_flow.proofs.WayLemmas.{edge_joins}
use Rattle.vob_flow.proofs.closing.close_roots.Goals as goal

pub loop-k-preserved : goal.loop-k-preserved
loop-k-preserved c =
    let h = c.loop-k.invariant in
    let parts = c.args.parts.now in
    let k = c.loop-k.k in
    let node = c.index-node.result.now in
    let less : k < length parts.nodes.items =
    omega (arith, c.loop-k-test.true, c.len-k-end.ensures, parts.nodes.ok.0) in
    let at : get_or parts.nodes.items k 0 ≡ node =
    sym (c.index-node.ensures ∙ get_or_default parts.nodes.items k node 0 less) in
    let node_in : node < length parts.roots.items =
    omega (arith, c.requires.parts.inside k less, at, c.requires.parts.count) in
    let root : c.index.result.now ≡ component_of parts.roots.items node =
    c.index.ensures ∙ get_or_default parts.roots.items node c.index.result.now 0 node_in in
    let drawn = rw (c.next.ensures.ends, c.deref.ensures.value, root) at c.draw_ends.ensures.drawn in
    record {
      drawn = AreDrawn-more c.args.graph.now parts c.requires.parts (edge_joins c.args.graph.now
          (rw c.nodes-nodes.ensures.count at c.nodes-nodes.ensures.inside)) k node less at _ _ h.drawn drawn;
      count = drawn.shape.count ∙ h.count;
      columns = c.draw_ends.ensures.columns ∙ h.columns;
    }
