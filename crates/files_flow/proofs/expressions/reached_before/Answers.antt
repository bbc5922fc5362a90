-- The nodes that are reached are those to which a path leads.
use Rattle.std.proofs.Common.{◌∙◌, Vec, Global, ℕ}
use Rattle.std.proofs.lemmas.List.{length-map}
use Rattle.files_flow.proofs.expressions.reached_before.Goals as goal

pub returns : goal.returns
returns c =
    let reached = rw (c.in_ok-next.ensures, c.deref.ensures.value, c.in_ok-node_lists.ensures.next) at c.in_ok-reached.ensures in
    record {
      count = length-map c.in_ok-before.before.items (λ (v : Vec ℕ Global). v.items) ∙ c.in_ok-before.ensures.0;
      each = λ n m less.
          let at = c.in_ok-before.ensures.1 n m less in
          let path = reached.each m in (
            (λ there. let both = at.0 there in (both.0, path.0 both.1)),
            (λ both. at.1 (both.0, path.1 both.1)),
          );
    }
