-- Each list is what its call returned.
use Rattle.std.proofs.Common.{◌≡◌, ◌∙◌, ◌∷◌, ◌++◌, [], List, ℕ, ap, length, refl, rules}
use Rattle.vob_flow.specs.declared.lists.Paths.TheVariants.{AllFrom}
use Rattle.files_flow.specs.Problems.{lists_of}
use Rattle.files_flow.proofs.expressions.busy_problem.Goals as goal

pub returns : goal.returns
returns c =
    let many : c.len-border.result ≡ length c.args.graph.now.nodes.items = search rules in
    let found = rw c.deref.ensures.value at c.in_ok-expressions.ensures.all in
    record {
      paths = ap AllFrom many;
      backward = refl;
      expressions = record {
        labels = rw found at c.in_ok-expression_labels.ensures;
        by_variable = rw (c.len.ensures, found) at c.in_ok-readers_of.ensures;
      };
      own = lists_of c.in_ok-expressions.field-0.own.items;
      are_own = rw (c.deref.ensures.value, found) at c.in_ok-expressions.ensures.own;
      generates = c.in_ok-add_empty.ensures;
      writes = c.in_ok-add_empty-2.ensures
          ∙ ap (λ (l : List (List ℕ)). l ++ [] ∷ []) (rw c.deref-2.ensures.value at c.in_ok-writes.ensures.writes);
      from = rw (many, c.deref-3.ensures.value) at c.in_ok-nodes_after.ensures;
    }
