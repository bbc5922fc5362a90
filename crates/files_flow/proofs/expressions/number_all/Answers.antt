-- One node more has the number of what it reads.
use Rattle.std.proofs.Common.{◌≡◌, ◌∙◌, ◌∷◌, [], List, Vec, Global, ℕ, ap, cond, get_or, sym, take}
use Rattle.std.proofs.lemmas.List.{map-append, take_more}
use Rattle.vob_flow.specs.declared.live.Flow.{Flow}
use Rattle.files_text.specs.Names.{with_name}
use Rattle.files_flow.specs.Expressions.{IsOwn, expressions_of, reads_any}
use Rattle.files_flow.specs.Problems.{lists_of}
use Rattle.files_flow.proofs.ExpressionLemmas.{expressions_more, own_kept, zip_map, zip_push}
use Rattle.files_flow.proofs.expressions.number_all.Goals as goal

pub loop-node-preserved : goal.loop-node-preserved
loop-node-preserved c =
    let nodes = c.args.nodes.now in
    let k = c.loop-node.node in
    let flow = get_or nodes k c.index-nodes-node.result in
    let reads = flow.reads.items in
    let old = c.loop-node.expressions in
    let new = c.own_of.new.expressions in
    let before = c.loop-node.invariant in
    let more = take_more nodes k c.index-nodes-node.result c.loop-node-test.true in
    let is : new ≡ cond (reads_any reads) (with_name old reads) old =
    rw c.deref.ensures.value at c.in_ok-own_of.ensures.added in
    let kept = zip_map (λ (node : Flow). IsOwn old node.reads.items) (λ (node : Flow). IsOwn new node.reads.items)
    (λ node. own_kept old new (reads_any reads) reads is node.reads.items) (take k nodes) (lists_of c.loop-node.own.items)
    before.own in
    record {
      all = is ∙ ap (λ (e : List (List ℕ)). cond (reads_any reads) (with_name e reads) e) before.all
          ∙ sym (expressions_more (take k nodes) flow) ∙ ap expressions_of (sym more);
      own = rw (
        more,
        c.in_ok-push.ensures.items,
        map-append (λ (v : Vec ℕ Global). v.items) c.loop-node.own.items (c.in_ok-own_of.field-0 ∷ []),
      )
          (zip_push (λ (node : Flow). IsOwn new node.reads.items) (take k nodes) (lists_of c.loop-node.own.items) flow
          c.in_ok-own_of.field-0.items kept (rw c.deref.ensures.value at c.in_ok-own_of.ensures.own));
    }
