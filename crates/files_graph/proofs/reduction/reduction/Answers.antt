-- The edges in their order are those that were made.
use Rattle.std.proofs.lemmas.List.Sorted.{Contains-permutation, IsPermutation-sym}
use Rattle.std.proofs.lemmas.List.Filters.{dedup_is}
use Rattle.files_graph.proofs.SortLemmas.{dedup-has, dedup-order, edge_eq}
use Rattle.files_graph.proofs.reduction.reduction.Goals as goal

pub direct_edges-requires : goal.direct_edges-requires
direct_edges-requires c = c.in_ok-links.ensures.down

pub edges_of-requires-clause-links : goal.edges_of-requires-clause-links
edges_of-requires-clause-links c = record {
  links = c.in_ok-links.links;
  are_links = rw c.deref-2.ensures.value (rw c.deref.ensures.value at c.in_ok-links.ensures.links);
  each = rw c.deref-3.ensures.value c.in_ok-direct.ensures;
}

pub returns-clause-order : goal.returns-clause-order
returns-clause-order c =
    let sorted = c.sort_unstable.new.self.items in
    rw (dedup_is edge_eq sorted _ c.dedup.ensures.filtered) (dedup-order sorted c.sort_unstable.ensures.sorted)

pub returns-clause-each : goal.returns-clause-each
returns-clause-each c =
    let moved = c.sort_unstable.ensures.permutation in
    let sorted = c.sort_unstable.new.self.items in
    rw (dedup_is edge_eq sorted _ c.dedup.ensures.filtered) (λ a b.
    let each = c.in_ok-edges.ensures a b in
    let kept = dedup-has sorted (a, b) in (
      (λ there. each.0 (Contains-permutation _ _ (a, b) (IsPermutation-sym _ _ moved) (kept.1 there))),
      (λ is. kept.0 (Contains-permutation _ _ (a, b) moved (each.1 is))),
    ))
