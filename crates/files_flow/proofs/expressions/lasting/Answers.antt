-- One node more.
use Rattle.std.proofs.Common.{◌∙◌, Some, ◌<◌, ◌∷◌, ◌++◌, [], Vec, Global, ℕ, ap, arith, length, sym, take}
use Rattle.std.proofs.lemmas.List.{get_or-map, map-append, take_more}
use Rattle.std.proofs.lemmas.Option.{slice_get-get_or}
use Rattle.vob_flow.specs.declared.live.Flow.{Flow}
use Rattle.files_flow.specs.Expressions.{IsLasting, IsOwn}
use Rattle.files_flow.specs.Problems.{lists_of}
use Rattle.files_flow.proofs.ExpressionLemmas.{zip_at, zip_push}
use Rattle.files_flow.proofs.expressions.lasting.Goals as goal

pub loop-node-preserved : goal.loop-node-preserved
loop-node-preserved c expressions all =
    let nodes = c.args.nodes.now in
    let lists = c.args.own.now in
    let k = c.loop-node.node in
    let less = c.loop-node-test.true in
    let flow = c.index-nodes-node.result in
    let inside : k < length lists = omega (arith, less, c.requires) in
    let was = zip_at (λ (node : Flow). IsOwn expressions node.reads.items) nodes (lists_of lists) k flow [] all
    (slice_get-get_or nodes k flow less ∙ ap Some (sym c.index-nodes-node.is)) in
    let more = take_more nodes k flow less ∙ ap (λ f. take k nodes ++ f ∷ []) (sym c.index-nodes-node.is) in
    let own = get_or-map (λ (v : Vec ℕ Global). v.items) lists k c.index-own-node.result [] inside
    ∙ ap (λ (v : Vec ℕ Global). v.items) (sym c.index-own-node.is) in
    rw (
      more,
      c.in_ok-push.ensures.items,
      map-append (λ (v : Vec ℕ Global). v.items) c.loop-node.lists.items (c.in_ok-lasting_of.field-0 ∷ []),
    )
    (zip_push (IsLasting expressions) (take k nodes) (lists_of c.loop-node.lists.items) flow
    c.in_ok-lasting_of.field-0.items (c.loop-node.invariant expressions all)
    (c.in_ok-lasting_of.ensures expressions (rw (c.deref.ensures.value, ← own) was)))
