-- The edges that sets stand for, in order and each once.
use Rattle.std.specs.Prelude.{◌↔◌, AllPairs, Contains}
use Rattle.std.proofs.Common.{◌≡◌, Option, ℕ, zero, suc, ◌+◌, ◌<◌, ◌≤◌, inl, inr, Bool, true, List, [], length, refl, sym, ap, ◌∙◌, arith, slice_index_or, subst}
use Rattle.std.proofs.lemmas.Bool.{cases_lt, false≢true}
use Rattle.std.proofs.lemmas.List.{get_or_past}
use Rattle.std.proofs.lemmas.List.Elements.{Contains-append_left, Contains-append_right, Contains-append_cases}
use Rattle.vob_block.specs.Packing.{item}
use Rattle.vob_flow.specs.Draws.{IsIn}
use Rattle.files_text.specs.Printed.{members}
use Rattle.files_graph.specs.ClosureText.{IsBefore, ListsEdges, ListsNodes, edges_from, edges_of}
use Rattle.files_graph.specs.GraphForms.{edges_text, nodes_text}
use Rattle.files_graph.specs.declared.form.GraphForm.{GraphForm}
use Rattle.files_text.proofs.ListLemmas.{AllPairs-append, AllPairs-map, AllPairs-none, Contains-map, map-Contains, nothing}
use Rattle.files_text.proofs.PrintedLemmas.{members-has, members-rise}

module _ (node : ℕ) (set : List Bool) where
  edges_from-order : AllPairs IsBefore (edges_from node set)
  edges_from-order =
      AllPairs-map (λ to. (node, to)) (λ i j. i < j) IsBefore (λ i j less. inr (refl, less))
      (members set) (members-rise set)

  edges_from-only : (n m : ℕ) → Contains (edges_from node set) (n, m) → (node ≡ n) × (item set m ≡ true)
  edges_from-only n m there =
      let found = Contains-map (λ to. (node, to)) (members set) (n, m) there in
      let from : node ≡ n = ap (λ e. e.0) found.2 in
      let to : found.0 ≡ m = ap (λ e. e.1) found.2 in
      (from, (members-has set m).0 (rw to at found.1))

  edges_from-has : (m : ℕ) → item set m ≡ true → Contains (edges_from node set) (node, m)
  edges_from-has m there =
      map-Contains (λ to. (node, to)) (members set) m ((members-has set m).1 there)

module _ (sets : List (List Bool)) where
  edges_of-only : (a count n m : ℕ) → Contains (edges_of sets a count) (n, m) → (a ≤ n) × IsIn sets n m
  edges_of-only a zero n m there = absurd (nothing (n, m) there)
  edges_of-only a (suc count) n m there =
      elim (Contains-append_cases (edges_from a (slice_index_or sets a []))
      (edges_of sets (a + 1) count) (n, m) there) [
        | inl own ↦
            let is = edges_from-only a (slice_index_or sets a []) n m own in
            (omega (arith, is.0), subst (λ k. IsIn sets k m) is.0 is.1)
        | inr others ↦
            let is = edges_of-only (a + 1) count n m others in (omega (arith, is.0), is.1)
      ]

  edges_of-has : (a count n m : ℕ) → a ≤ n → n < a + count → IsIn sets n m →
      Contains (edges_of sets a count) (n, m)
  edges_of-has a zero n m low high there = absurd (omega (arith, low, high))
  edges_of-has a (suc count) n m low high there = elim (cases_lt a n) [
    | inl less ↦
        Contains-append_right (edges_from a (slice_index_or sets a []))
        (edges_of sets (a + 1) count) (n, m)
        (edges_of-has (a + 1) count n m (omega (arith, less)) (omega (arith, high)) there)
    | inr past ↦
        let same : n ≡ a = omega (arith, low, past) in
        Contains-append_left (edges_from a (slice_index_or sets a []))
        (edges_of sets (a + 1) count) (n, m)
        (rw same (edges_from-has a (slice_index_or sets a []) m
        (subst (λ k. IsIn sets k m) same there)))
  ]

  edges_of-order : (a count : ℕ) → AllPairs IsBefore (edges_of sets a count)
  edges_of-order a zero = AllPairs-none IsBefore
  edges_of-order a (suc count) =
      AllPairs-append IsBefore (edges_from a (slice_index_or sets a [])) (edges_of sets (a + 1) count)
      (edges_from-order a (slice_index_or sets a [])) (edges_of-order (a + 1) count)
      (λ edge other own others.
      let from = edges_from-only a (slice_index_or sets a []) edge.0 edge.1 own in
      let above = edges_of-only (a + 1) count other.0 other.1 others in
      inl (omega (arith, from.0, above.0)))

  row_there : (n m : ℕ) → IsIn sets n m → n < length sets
  row_there n m there = elim (cases_lt n (length sets)) [
    | inl less ↦ less
    | inr past ↦ absurd (false≢true (ap (λ row. item row m) (sym (get_or_past sets n [] past)) ∙ there))
  ]

  -- all edges of some sets
  pub lists_edges : (form : Option GraphForm) (names : List (List ℕ)) (P : ℕ → ℕ → Type 0) (count : ℕ) →
      length sets ≡ count → ((n m : ℕ) → IsIn sets n m ↔ P n m) →
      ListsEdges form names P (edges_text form names (edges_of sets 0 count))
  lists_edges form names P count long same = record {
    edges = edges_of sets 0 count;
    is = refl;
    each = λ n m. (
      (λ there. (same n m).0 ((edges_of-only 0 count n m there).1)),
      (λ there. let own = (same n m).1 there in
          edges_of-has 0 count n m (omega arith) (omega (arith, long, row_there n m own)) own),
    );
    order = edges_of-order 0 count;
  }

-- all nodes of a set
pub lists_nodes : (set : List Bool) (form : Option GraphForm) (names : List (List ℕ)) (P : ℕ → Type 0) →
    ((n : ℕ) → (item set n ≡ true) ↔ P n) → ListsNodes form names P (nodes_text form names (members set))
lists_nodes set form names P same = record {
  nodes = members set;
  is = refl;
  each = λ n. (
    (λ there. (same n).0 ((members-has set n).0 there)),
    (λ there. (members-has set n).1 ((same n).1 there)),
  );
  order = members-rise set;
}
