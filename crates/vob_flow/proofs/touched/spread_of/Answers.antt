-- The graph has the edges along which places spread.
use Rattle.std.proofs.Common.{◌+◌, ◌∙◌, ap}
use Rattle.std.proofs.lemmas.List.Elements.{All-contains}
use Rattle.vob_rows.specs.Graph.{JoinsNodes}
use Rattle.vob_flow.specs.Closure.{IsEdge}
use Rattle.vob_flow.proofs.SpreadLemmas.{AreSpread-as}
use Rattle.vob_flow.proofs.touched.spread_of.Goals as goal

pub returns-in-Ok : goal.returns-in-Ok
returns-in-Ok c =
    let made = c.in-Ok.ensures in record {
      users = _;
      back = c.in_ok-users.ensures;
      count = made.nodes ∙ c.in-Some-checked_add.ensures.1 ∙ ap (λ n. n + 1) (c.in-Some.ensures.1 ∙ ap (λ n. n + c.args.places) c.nodes.ensures.count);
      edges = AreSpread-as _ _ _ _ _ _ (IsEdge c.in-Ok.spread) (λ n m within.
          let joins = All-contains (JoinsNodes c.in-Some-checked_add.count) c.in_ok-edges.edges.items (n, m) (rw c.deref.ensures.value at made.joins) within in
          ((rw c.deref.ensures.value at made.each) n m joins.0).1 within) c.in_ok-edges.ensures;
    }
