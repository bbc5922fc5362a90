-- Each list is what its call returned.
use Rattle.std.proofs.Common.{◌≡◌, ◌∙◌, Vec, Global, ℕ, refl, sym}
use Rattle.std.proofs.lemmas.List.{length-map}
use Rattle.vob_flow.specs.declared.live.Flow.{Flow}
use Rattle.files_flow.specs.Expressions.{IsOwn, expressions_of}
use Rattle.files_flow.specs.Problems.{lists_of}
use Rattle.files_flow.proofs.ExpressionLemmas.{zip_count}
use Rattle.files_flow.proofs.expressions.available_problem.Goals as goal

pub lasting-requires : goal.lasting-requires
lasting-requires c =
    let own = c.in_ok-made.made.own.items in
    let nodes = c.args.graph.now.nodes.items in
    let all = rw c.deref.ensures.value at c.in_ok-made.ensures.own in
    rw (c.deref-2.ensures.value, c.deref-3.ensures.value)
    (sym (length-map own (λ (v : Vec ℕ Global). v.items))
    ∙ sym (zip_count (λ (node : Flow). IsOwn c.in_ok-made.made.expressions node.reads.items) nodes (lists_of own) all))

pub returns : goal.returns
returns c =
    let made : c.in_ok-made.made.expressions ≡ expressions_of c.args.graph.now.nodes.items =
    rw c.deref.ensures.value at c.in_ok-made.ensures.all in
    let own = rw (c.deref.ensures.value, made) at c.in_ok-made.ensures.own in
    record {
      paths = refl;
      forward = refl;
      expressions = record {
        labels = rw made at c.in_ok-expression_labels.ensures;
        by_variable = rw (c.len.ensures, made) at c.in_ok-readers_of.ensures;
      };
      generates = rw (c.deref-3.ensures.value) at (c.in_ok-lasting.ensures (expressions_of c.args.graph.now.nodes.items)
          (rw (c.deref-2.ensures.value, c.deref-3.ensures.value) own));
      writes = rw c.deref-4.ensures.value at c.in_ok-node_lists.ensures.writes;
      from = rw c.deref-5.ensures.value at c.in_ok-reached_before.ensures;
    }
