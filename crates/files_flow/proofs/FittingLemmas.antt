-- Problems of a flow graph are sound, as its numbers are those of variables and nodes.
use Rattle.std.specs.Prelude.{All, Contains}
use Rattle.std.specs.List.{range_with_len}
use Rattle.std.proofs.Common.{◌≡◌, ℕ, ◌+◌, ◌<◌, inl, inr, Some, List, [], ◌∷◌, ◌++◌, Vec, Global, length, map, get_or, slice_index_or, arith, refl, sym, ap, subst, ◌∙◌}
use Rattle.std.proofs.lemmas.Option.{slice_get-get_or, slice_get_within}
use Rattle.std.proofs.lemmas.List.{get_or_default, get_or_past, length-append, length-map}
use Rattle.std.proofs.lemmas.List.Elements.{Contains-append_cases, Contains-get_or}
use Rattle.std.proofs.lemmas.List.FromFn.{get_or-map-range_with_len, length-map-range_with_len}
use Rattle.std.proofs.lemmas.Bool.{cases_lt}
use Rattle.vob_flow.specs.declared.live.Flow.{Flow}
use Rattle.vob_rows.specs.Graph.{LeadToNodes}
use Rattle.files_text.proofs.ListLemmas.{Contains-map, first_or_later, map-Contains, nothing}
use Rattle.files_flow.proofs.ExpressionLemmas.{zip_count, zip_each}
use Rattle.files_flow.specs.Definitions.{AreGrouped, IsReachingProblem, definition_label, definitions_of}
use Rattle.files_flow.specs.Expressions.{AreReachedBefore, AreTransposed, IsLasting, IsOwn, expression_label, expressions_of}
use Rattle.files_flow.specs.Available.{IsAvailableProblem, IsBusyProblem, after_of}
use Rattle.files_flow.specs.Flows.{AreNumbers, IsFlowOf, IsInRange, list_of, names_for}
use Rattle.files_flow.specs.Problems.{AreBefore, IsLiveProblem, IsSound, lists_of, next_of}
use Rattle.files_flow.specs.declared.flow.FlowGraph.{FlowGraph}
use Rattle.files_flow.specs.declared.nodes.Kind.{Kind}
use Rattle.files_flow.specs.declared.nodes.Kind.TheVariants.{Reads, Writes, Next}
use Rattle.files_flow.specs.declared.problem.Problem.{Problem}
use Rattle.files_flow.proofs.ProblemLemmas.{only}

-- each number in some lists is below a count
abbrev AreBelow : ℕ → List (List ℕ) → Type 0
AreBelow count lists = (list : List ℕ) → Contains lists list → (k : ℕ) → Contains list k → k < count

by_index : (count : ℕ) (lists : List (List ℕ)) →
    ((n k : ℕ) → n < length lists → Contains (slice_index_or lists n []) k → k < count) → AreBelow count lists
by_index count lists each list (n, less, same) k there =
    each n k less (subst (λ l. Contains l k) (sym same ∙ get_or_default lists n list [] less) there)

many : (lists : List (Vec ℕ Global)) → length (lists_of lists) ≡ length lists
many lists = length-map lists (λ (v : Vec ℕ Global). v.items)

module _ (problem : Problem) (places : ℕ) (from generates by_variable writes : List (List ℕ))
    (from_is : lists_of problem.from.items ≡ from) (generates_is : lists_of problem.generates.items ≡ generates)
    (by_is : lists_of problem.by_variable.items ≡ by_variable) (writes_is : lists_of problem.writes.items ≡ writes)
    (labels_are : length problem.labels.items ≡ places) where
  sound_problem : length generates ≡ length from → length writes ≡ length from → AreBelow (length from) from →
      AreBelow places generates → AreBelow places by_variable → AreBelow (length by_variable) writes → IsSound problem
  sound_problem generates_many writes_many edges own places_are variables = record {
    edges = λ n less j d inner.
        let inside : n < length (lists_of problem.from.items) = omega (arith, less, many problem.from.items) in
        let list = get_or (lists_of problem.from.items) n [] in
        let below = edges list (subst (λ l. Contains l list) from_is (Contains-get_or (lists_of problem.from.items) n [] inside))
        (get_or list j d) (Contains-get_or list j d inner) in
        omega (arith, below, ap length from_is);
    generates = sym (many problem.generates.items) ∙ ap length generates_is ∙ generates_many ∙ sym (ap length from_is)
        ∙ many problem.from.items;
    writes = sym (many problem.writes.items) ∙ ap length writes_is ∙ writes_many ∙ sym (ap length from_is)
        ∙ many problem.from.items;
    places = below (length problem.labels.items) (lists_of problem.generates.items) (rw (generates_is, labels_are) own);
    own_places = below (length problem.labels.items) (lists_of problem.by_variable.items) (rw (by_is, labels_are) places_are);
    variables = below (length problem.by_variable.items) (lists_of problem.writes.items)
        (rw (writes_is, sym (many problem.by_variable.items) ∙ ap length by_is) variables);
  }
    where
      below : (count : ℕ) (lists : List (List ℕ)) → AreBelow count lists → All (λ list. All (λ x. x < count) list) lists
      below count lists each n d less j e inner =
          each (get_or lists n d) (Contains-get_or lists n d less) (get_or (get_or lists n d) j e)
          (Contains-get_or (get_or lists n d) j e inner)

numbers_below : (names : List (List ℕ)) (numbers : List ℕ) (texts : List (List ℕ)) → AreNumbers names numbers texts →
    (k : ℕ) → Contains numbers k → k < length names
numbers_below names [] [] are k there = absurd (nothing k there)
numbers_below names [] (t ∷ texts) are k there = absurd are
numbers_below names (n ∷ numbers) [] are k there = absurd are
numbers_below names (n ∷ numbers) (t ∷ texts) are k there = elim (first_or_later n numbers k there) [
  | inl same ↦ subst (λ i. i < length names) same (slice_get_within names n t are.0)
  | inr later ↦ numbers_below names numbers texts are.1 k later
]

pub in_range : (text : List ℕ) (graph : FlowGraph) → IsFlowOf text graph → IsInRange graph
in_range text graph is = record {
  count = is.flows.count;
  each = λ n flow there kind j d inner.
      numbers_below _ (list_of kind flow) _ (is.flows.each n flow there kind) (get_or (list_of kind flow) j d)
      (Contains-get_or (list_of kind flow) j d inner);
}

module _ (graph : FlowGraph) (range : IsInRange graph) where
  abbrev nodes : List Flow
  nodes = graph.nodes.items

  of_kind : (kind : Kind) → AreBelow (length (names_for graph.names graph.variables kind)) (map (list_of kind) nodes)
  of_kind kind list there k within =
      let found = Contains-map (list_of kind) nodes list there in
      let flow = found.0 in
      let at = found.1 in
      let in_list : Contains (list_of kind flow) k = subst (λ l. Contains l k) (sym found.2) within in
      let number = range.each at.0 flow (slice_get-get_or nodes at.0 flow at.1 ∙ ap Some at.2) kind in_list.0 k in_list.1 in
      subst (λ x. x < length (names_for graph.names graph.variables kind)) in_list.2 number

  edges : AreBelow (length (map (λ (node : Flow). node.next.items) nodes)) (map (λ (node : Flow). node.next.items) nodes)
  edges list there k within =
      omega (arith, of_kind Next list there k within, range.count, length-map nodes (λ (node : Flow). node.next.items))

  pub edges_lead : (n : ℕ) → n < length nodes →
      All (λ m. m < length (map (λ (node : Flow). node.next.items) nodes)) (slice_index_or (map (λ (node : Flow). node.next.items) nodes) n [])
  edges_lead n less j d inner =
      let lists = map (λ (node : Flow). node.next.items) nodes in
      let list = get_or lists n [] in
      let inside : n < length lists = omega (arith, less, length-map nodes (λ (node : Flow). node.next.items)) in
      edges list (Contains-get_or lists n [] inside) (get_or list j d) (Contains-get_or list j d inner)

  inside_next : (m n : ℕ) → Contains (next_of nodes m) n → m < length nodes
  inside_next m n there = elim (cases_lt m (length nodes)) [
    | inl less ↦ less
    | inr past ↦ absurd (nothing n (subst (λ list. Contains list n)
        (get_or_past (map (λ node. node.next.items) nodes) m []
        (omega (arith, past, length-map nodes (λ (node : Flow). node.next.items)))) there))
  ]

  abbrev vars : ℕ
  vars = length graph.variables

  labelled : {X : Type 0} (f : X → List ℕ) (problem : Problem) (xs : List X) →
      lists_of problem.labels.items ≡ map f xs → length problem.labels.items ≡ length xs
  labelled f problem xs are = sym (many problem.labels.items) ∙ ap length are ∙ length-map xs f

  before_below : (before : List (List ℕ)) → AreBefore nodes before → AreBelow (length before) before
  before_below before are = by_index (length before) before (λ n k less there.
      omega (arith, are.count, inside_next k n ((are.each n k (omega (arith, less, are.count))).0 there)))

  pub before_lead : (before : List (Vec ℕ Global)) → AreBefore nodes (lists_of before) →
      LeadToNodes (lists_of before) (length before)
  before_lead before are n less j d inner =
      let lists = lists_of before in
      let list = get_or lists n [] in
      let inside : n < length lists = omega (arith, less, many before) in
      before_below lists are list (Contains-get_or lists n [] inside) (get_or list j d) (Contains-get_or list j d inner)

  module _ (problem : Problem) where
    pub live_sound : IsLiveProblem graph problem → IsSound problem
    live_sound is =
        let count = length-map-range_with_len (λ (x : ℕ). x ∷ []) 0 vars in
        sound_problem problem vars _ _ singles _ is.from is.generates is.by_variable is.writes
        (sym (many problem.labels.items) ∙ ap length is.labels)
        (length-map nodes (λ (node : Flow). node.reads.items) ∙ sym (length-map nodes (λ (node : Flow). node.next.items)))
        (length-map nodes (λ (node : Flow). node.writes.items) ∙ sym (length-map nodes (λ (node : Flow). node.next.items)))
        edges (of_kind Reads) (by_index vars singles (λ n k less there. in_single n k less there))
        (λ list there k within. omega (arith, of_kind Writes list there k within, count))
      where
        singles : List (List ℕ)
        singles = map (λ (x : ℕ). x ∷ []) (range_with_len 0 vars)

        in_single : (n k : ℕ) → n < length singles → Contains (slice_index_or singles n []) k → k < vars
        in_single n k less there =
            let inside : n < vars = omega (arith, less, length-map-range_with_len (λ (x : ℕ). x ∷ []) 0 vars) in
            let at = get_or-map-range_with_len (λ (x : ℕ). x ∷ []) 0 vars n n [] inside (omega arith) in
            omega (arith, inside, only n k (subst (λ l. Contains l k) at there))

    grouped : (count : ℕ) (keys : List ℕ) (lists : List (List ℕ)) → AreGrouped count keys lists → AreBelow (length keys) lists
    grouped count keys lists are = by_index (length keys) lists (λ n k less there.
        slice_get_within keys k n ((are.each n k (omega (arith, less, are.many))).0 there))

    pub reaching_sound : IsReachingProblem graph problem → IsSound problem
    reaching_sound is =
        let made = definitions_of nodes in
        let places = labelled (definition_label graph.names graph.variables) problem made is.labels in
        sound_problem problem (length made) _ _ _ _ refl refl refl is.writes places
        (is.generates.many ∙ sym is.from.count)
        (length-map nodes (λ (node : Flow). node.writes.items) ∙ sym is.from.count)
        (before_below (lists_of problem.from.items) is.from)
        (subst (λ n. AreBelow n (lists_of problem.generates.items)) (length-map made (λ (one : ℕ × ℕ). one.0))
        (grouped _ _ _ is.generates))
        (subst (λ n. AreBelow n (lists_of problem.by_variable.items)) (length-map made (λ (one : ℕ × ℕ). one.1))
        (grouped _ _ _ is.by_variable))
        (λ list there k within. omega (arith, of_kind Writes list there k within, is.by_variable.many))

    abbrev expressions : List (List ℕ)
    expressions = expressions_of nodes

    own_below : (reads own : List ℕ) → IsOwn expressions reads own → (k : ℕ) → Contains own k → k < length expressions
    own_below [] own is k there = absurd (nothing k (subst (λ l. Contains l k) is there))
    own_below (v ∷ reads) own is k there =
        let same = only is.0 k (subst (λ l. Contains l k) is.2 there) in
        omega (arith, same, slice_get_within expressions is.0 (v ∷ reads) is.1)

    lasting_below : (node : Flow) (own : List ℕ) → IsLasting expressions node own → (k : ℕ) → Contains own k → k < length expressions
    lasting_below node own (inl none) k there = absurd (nothing k (subst (λ l. Contains l k) none.1 there))
    lasting_below node own (inr is) k there = own_below node.reads.items own is.1 k there

    readers_below : (lists : List (List ℕ)) → AreTransposed vars expressions lists → AreBelow (length expressions) lists
    readers_below lists are = by_index (length expressions) lists (λ n k less there.
        elim (cases_lt k (length expressions)) [
          | inl inside ↦ inside
          | inr past ↦ absurd (nothing n (subst (λ l. Contains l n) (get_or_past expressions k [] past)
              ((are.each n k (omega (arith, less, are.many))).0 there)))
        ])

    reached_below : (before : List (List ℕ)) → AreReachedBefore nodes before → AreBelow (length before) before
    reached_below before are = by_index (length before) before (λ n k less there.
        omega (arith, are.count, inside_next k n ((are.each n k (omega (arith, less, are.count))).0 there).0))

    pub available_sound : IsAvailableProblem graph problem → IsSound problem
    available_sound is =
        let places = labelled (expression_label graph.variables) problem expressions is.expressions.labels in
        let count = sym (zip_count (IsLasting expressions) nodes (lists_of problem.generates.items) is.generates) in
        sound_problem problem (length expressions) _ _ _ _ refl refl refl is.writes places (count ∙ sym is.from.count)
        (length-map nodes (λ (node : Flow). node.writes.items) ∙ sym is.from.count)
        (reached_below (lists_of problem.from.items) is.from)
        (zip_each (IsLasting expressions) (λ own. (k : ℕ) → Contains own k → k < length expressions) lasting_below nodes
        (lists_of problem.generates.items) is.generates)
        (readers_below (lists_of problem.by_variable.items) is.expressions.by_variable)
        (λ list there k within. omega (arith, of_kind Writes list there k within, is.expressions.by_variable.many))

    -- an empty list more
    and_none : (count : ℕ) (lists : List (List ℕ)) → AreBelow count lists → AreBelow count (lists ++ [] ∷ [])
    and_none count lists each list there k within = elim (Contains-append_cases lists ([] ∷ []) list there) [
      | inl old ↦ each list old k within
      | inr last ↦ elim (first_or_later [] [] list last) [
        | inl same ↦ absurd (nothing k (subst (λ l. Contains l k) (sym same) within))
        | inr past ↦ absurd (nothing list past)
      ]
    ]

    after_below : (next : List ℕ) → ((k : ℕ) → Contains next k → k < length nodes) → (k : ℕ) →
        Contains (after_of (length nodes) next) k → k < length nodes + 1
    after_below [] each k there = omega (arith, only (length nodes) k there)
    after_below (n ∷ next) each k there = omega (arith, each k there)

    after_all : AreBelow (length nodes + 1) (map (λ node. after_of (length nodes) node.next.items) nodes)
    after_all list there k within =
        let found = Contains-map (λ (node : Flow). after_of (length nodes) node.next.items) nodes list there in
        after_below found.0.next.items (λ j inner. omega (
          arith,
          range.count,
          of_kind Next found.0.next.items
              (map-Contains (list_of Next) nodes found.0 found.1) j inner,
        )) k (subst (λ l. Contains l k) (sym found.2) within)

    one_more : (lists : List (List ℕ)) → length lists ≡ length nodes → length (lists ++ [] ∷ []) ≡ length nodes + 1
    one_more lists same = omega (arith, same, length-append lists ([] ∷ []))

    pub busy_sound : IsBusyProblem graph problem → IsSound problem
    busy_sound is =
        let places = labelled (expression_label graph.variables) problem expressions is.expressions.labels in
        let after = map (λ (node : Flow). after_of (length nodes) node.next.items) nodes in
        let from_count = one_more after (length-map nodes (λ (node : Flow). after_of (length nodes) node.next.items)) in
        let own_count = one_more is.own (sym (zip_count (λ (node : Flow). IsOwn expressions node.reads.items) nodes is.own is.are_own)) in
        let writes = map (λ (node : Flow). node.writes.items) nodes in
        let writes_count = one_more writes (length-map nodes (λ (node : Flow). node.writes.items)) in
        sound_problem problem (length expressions) _ _ _ _ is.from is.generates refl is.writes places
        (own_count ∙ sym from_count) (writes_count ∙ sym from_count)
        (subst (λ n. AreBelow n (after ++ [] ∷ [])) (sym from_count) (and_none (length nodes + 1) after after_all))
        (and_none (length expressions) is.own (zip_each (λ (node : Flow). IsOwn expressions node.reads.items)
        (λ own. (k : ℕ) → Contains own k → k < length expressions) (λ node. own_below node.reads.items) nodes is.own is.are_own))
        (readers_below (lists_of problem.by_variable.items) is.expressions.by_variable)
        (and_none _ writes (λ list there k within. omega (arith, of_kind Writes list there k within, is.expressions.by_variable.many)))
