-- Graphs with the same edges have the same paths, and the same reduction.
use Rattle.std.proofs.Common.{◌↔◌, ℕ, List, inl, inr}
use Rattle.vob_flow.specs.Closure.{IsEdge, Leads}
use Rattle.vob_flow.specs.Closure.Leads.{by_edge, through}
use Rattle.vob_flow.specs.Components.{AreConnected}
use Rattle.vob_flow.specs.Reach.{HasWay}
use Rattle.vob_flow.specs.Reach.Reaches.{at_start, along}
use Rattle.files_graph.specs.ClosureLaws.{HaveSameEdges}
use Rattle.files_graph.specs.Reduction.{IsFirst, IsReduced}

-- ---- if each edge of a graph is one of another, so is each path

module _ (next other : List (List ℕ)) (edge_over : (n m : ℕ) → IsEdge next n m → IsEdge other n m) where
  leads_over : {n m : ℕ} → Leads next n m → Leads other n m
  leads_over {n} {m} (by_edge edge) = by_edge (edge_over n m edge)
  leads_over {n} {m} (through {k = k} edge rest) = through (edge_over n k edge) (leads_over rest)

  way_over : (n : ℕ) → {m : ℕ} → HasWay next n m → HasWay other n m
  way_over n (at_start start) = at_start start
  way_over n (along {n = k} {m = m} rest edge) = along (way_over n rest) (edge_over k m edge)

  connected_over : (n m : ℕ) → AreConnected next n m → AreConnected other n m
  connected_over n m c = (way_over n c.0, way_over m c.1)

-- ---- what both say of each other

same_back : (next other : List (List ℕ)) → HaveSameEdges next other → HaveSameEdges other next
same_back next other same n m = ((same n m).1, (same n m).0)

module _ (next other : List (List ℕ)) (same : HaveSameEdges next other) where
  way_there : (n m : ℕ) → HasWay next n m → HasWay other n m
  way_there n m = way_over next other (λ k l. (same k l).0) n

  way_back : (n m : ℕ) → HasWay other n m → HasWay next n m
  way_back n m = way_over other next (λ k l. (same k l).1) n

  there : (n m : ℕ) → AreConnected next n m → AreConnected other n m
  there = connected_over next other (λ k l. (same k l).0)

  back : (n m : ℕ) → AreConnected other n m → AreConnected next n m
  back = connected_over other next (λ k l. (same k l).1)

  first_over : (n : ℕ) → IsFirst next n → IsFirst other n
  first_over n first m c = first m (back n m c)

  reduced_over : (n m : ℕ) → IsReduced next n m → IsReduced other n m
  reduced_over n m (inl e) = inl (record {
    from_first = first_over n e.from_first;
    to_first = first_over m e.to_first;
    way = way_there n m e.way;
    apart = λ c. e.apart (back n m c);
    alone = λ k from to. elim (e.alone k (way_back n k from) (way_back k m to)) [
      | inl with_n ↦ inl (there n k with_n)
      | inr with_m ↦ inr (there k m with_m)
    ];
  })
  reduced_over n m (inr (inl e)) = inr (inl (record {
    together = there n m e.together;
    later = e.later;
    none = λ k c above. e.none k (back n k c) above;
  }))
  reduced_over n m (inr (inr e)) = inr (inr (record {
    together = there n m e.together;
    last = λ k c. e.last k (back n k c);
    first = first_over m e.first;
    cycle = leads_over next other (λ k l. (same k l).0) e.cycle;
  }))

  pub leads_same : (n m : ℕ) → Leads next n m ↔ Leads other n m
  leads_same n m = (leads_over next other (λ k l. (same k l).0), leads_over other next (λ k l. (same k l).1))

pub reduced_same : (next other : List (List ℕ)) → HaveSameEdges next other → (n m : ℕ) →
    IsReduced next n m ↔ IsReduced other n m
reduced_same next other same n m =
    (reduced_over next other same n m, reduced_over other next (same_back next other same) n m)
