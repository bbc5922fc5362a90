-- A text has one text for each analysis of its flow graph.
use Rattle.std.specs.Prelude.{Contains, slice_get}
use Rattle.std.specs.List.{Any}
use Rattle.std.proofs.Common.{◌≡◌, ◌↔◌, ◌⊎◌, inl, inr, ℕ, Bool, true, false, Option, None, Some, List, [], ◌++◌, length, map, get_or, arith, sym, ap, subst, ◌∙◌}
use Rattle.std.proofs.lemmas.Bool.{cases_lt}
use Rattle.std.proofs.lemmas.List.{get_or-map, get_or_past}
use Rattle.std.proofs.lemmas.Option.{get_or_from_slice_get, slice_get_cases, slice_get_within}
use Rattle.vob_rows.specs.Sparse.{members}
use Rattle.vob_flow.specs.Draws.{IsIn}
use Rattle.vob_flow.specs.LiveEquations.{AreSets, IsSolution}
use Rattle.vob_flow.specs.declared.live.Flow.{Flow}
use Rattle.files_flow.specs.declared.analysis.Analysis.{Analysis}
use Rattle.files_flow.specs.declared.analysis.Analysis.TheVariants.{Live, Reaching, Available, Busy, Dominators, Immediate}
use Rattle.files_flow.specs.declared.flow.FlowGraph.{FlowGraph}
use Rattle.files_flow.specs.declared.problem.Problem.{Problem}
use Rattle.files_flow.specs.Analyses.{ListsAnalysis, ListsIn, WritesOf}
use Rattle.files_flow.specs.DotFlows.{AreDominanceLines, AreFromNames, ListsDominance}
use Rattle.files_flow.specs.declared.form.FlowForm.{FlowForm}
use Rattle.files_flow.specs.declared.form.FlowForm.TheVariants.{Dot as DotForm, Json}
use Rattle.files_dot.specs.Graphs.{JoinsNames, Part, nodes_of}
use Rattle.files_dot.specs.declared.notation.Notation.{Notation}
use Rattle.files_dot.specs.declared.notation.Notation.TheVariants.{Dot, Lines}
use Rattle.files_dot.proofs.OneGraphLemmas.{notations_one, texts_one}
use Rattle.files_flow.specs.FlowForms.{IsFramed, head, tail}
use Rattle.files_flow.specs.FlowLaws.{AreAlike, OutputsAreOne}
use Rattle.files_flow.specs.FlowText.{ListsLive, ListsSolution, sides_text}
use Rattle.files_flow.proofs.OneDominatorLemmas.{all_dominators_one, all_immediate_one, all_trees_one, dominator_lines_one, immediate_lines_one, tree_one}
use Rattle.files_flow.proofs.SameGraphLemmas.{graphs_one}
use Rattle.files_flow.proofs.SameProblemLemmas.{same_available, same_busy, same_count, same_nexts, same_reaching, same_reads, same_writes}
use Rattle.files_flow.proofs.SameSolutionLemmas.{HaveSameNumbers, same_by, sets_one, solution_one}

-- ---- live variables

at_node : (f : Flow → List ℕ) (nodes : List Flow) (n : ℕ) (flow : Flow) → slice_get nodes n ≡ Some flow →
    get_or (map f nodes) n [] ≡ f flow
at_node f nodes n flow is = get_or-map f nodes n flow [] (slice_get_within nodes n flow is)
    ∙ ap f (get_or_from_slice_get nodes n flow flow is)

list_at : (f : Flow → List ℕ) (nodes others : List Flow) → map f nodes ≡ map f others → (n : ℕ) (flow other : Flow) →
    slice_get nodes n ≡ Some flow → slice_get others n ≡ Some other → f flow ≡ f other
list_at f nodes others same n flow other is is' =
    sym (at_node f nodes n flow is) ∙ ap (λ l. get_or l n []) same ∙ at_node f others n other is'

module _ (vars : ℕ) (nodes others : List Flow)
    (reads : map (λ (node : Flow). node.reads.items) nodes ≡ map (λ (node : Flow). node.reads.items) others)
    (writes : map (λ (node : Flow). node.writes.items) nodes ≡ map (λ (node : Flow). node.writes.items) others)
    (nexts : map (λ (node : Flow). node.next.items) nodes ≡ map (λ (node : Flow). node.next.items) others)
    (count : length nodes ≡ length others) where
  there : (n : ℕ) (other : Flow) → slice_get others n ≡ Some other → (flow : Flow) × (slice_get nodes n ≡ Some flow)
  there n other is = elim (slice_get_cases nodes n).1 [
    | inl at ↦ (at.0, at.2)
    | inr past ↦ absurd (omega (arith, slice_get_within others n other is, past.0, count))
  ]

  live_over : (before after : List (List Bool)) → IsSolution vars nodes before after → IsSolution vars others before
      after
  live_over before after s = record {
    before_sets = record { count = s.before_sets.count ∙ count; long = s.before_sets.long };
    after_sets = record { count = s.after_sets.count ∙ count; long = s.after_sets.long };
    before_is = λ n other is v.
        let (flow, at) = there n other is in
        subst (λ (l : List ℕ). IsIn before n v ↔ (Contains l v ⊎ (IsIn after n v × ¬ Contains other.writes.items v)))
        (list_at (λ (node : Flow). node.reads.items) nodes others reads n flow other at is)
        (subst (λ (l : List ℕ). IsIn before n v ↔ (Contains flow.reads.items v ⊎ (IsIn after n v × ¬ Contains l v)))
        (list_at (λ (node : Flow). node.writes.items) nodes others writes n flow other at is)
        (s.before_is n flow at v));
    after_is = λ n other is v.
        let (flow, at) = there n other is in
        subst (λ (l : List ℕ). IsIn after n v ↔ Any (λ m. IsIn before m v) l)
        (list_at (λ (node : Flow). node.next.items) nodes others nexts n flow other at is) (s.after_is n flow at v);
  }

-- sets for as many nodes and variables that are within one another are equal
within_one : (vars count : ℕ) (sets others : List (List Bool)) → AreSets vars count sets → AreSets vars count others →
    ((n v : ℕ) → IsIn sets n v ↔ IsIn others n v) → sets ≡ others
within_one vars count sets others a b each = sets_one sets others (a.count ∙ sym b.count)
    (λ n. elim (cases_lt n count) [
      | inl less ↦ a.long n [] (omega (arith, less, a.count)) ∙ sym (b.long n [] (omega (arith, less, b.count)))
      | inr past ↦ ap length (get_or_past sets n [] (omega (arith, past, a.count)))
          ∙ sym (ap length (get_or_past others n [] (omega (arith, past, b.count))))
    ]) each

module _ (graph other : FlowGraph) (same : AreAlike graph other) where
  live_one : (json : Bool) (text text' : List ℕ) → ListsLive json graph text → ListsLive json other text' → text ≡ text'
  live_one json text text' a b =
      let k = length other.variables in
      let reads = same_reads graph other same in
      let writes = same_writes graph other same in
      let nexts = same_nexts graph other same in
      let count = same_count graph other same in
      let vars : length graph.variables ≡ k = ap length same.variables in
      let own = graph.nodes.items in
      let others = other.nodes.items in
      let first = subst (λ v. IsSolution v own a.before a.after) vars a.solution in
      let over = live_over k own others reads writes nexts count a.before a.after first in
      let back = live_over k others own (sym reads) (sym writes) (sym nexts) (sym count) b.before b.after b.solution in
      let less = a.least b.before b.after (subst (λ v. IsSolution v own b.before b.after) (sym vars) back) in
      let more = b.least a.before a.after over in
      let befores = within_one k (length others) a.before b.before over.before_sets b.solution.before_sets
      (λ n v. (less.0 n v, more.0 n v)) in
      let afters = within_one k (length others) a.after b.after over.after_sets b.solution.after_sets
      (λ n v. (less.1 n v, more.1 n v)) in
      a.lines ∙ ap (λ l. sides_text json l graph.variables (map members a.before) (map members a.after)) same.names
      ∙ ap (λ l. sides_text json other.names l (map members a.before) (map members a.after)) same.variables
      ∙ ap (λ l. sides_text json other.names other.variables (map members l) (map members a.after)) befores
      ∙ ap (λ l. sides_text json other.names other.variables (map members b.before) (map members l)) afters ∙ sym b.lines

-- ---- all analyses

module _ (json : Bool) (graph other : FlowGraph) (same : AreAlike graph other) (text text' : List ℕ) where
  named_one : {problem : Problem} → ListsSolution json graph.names problem text →
      ListsSolution json other.names problem text
  named_one {problem} a = subst (λ l. ListsSolution json l problem text) same.names a

  analysis_one : (analysis : Analysis) → ListsAnalysis analysis json graph text →
      ListsAnalysis analysis json other text' → text ≡ text'
  analysis_one Live a b = live_one graph other same json text text' a b
  analysis_one Reaching a b = solution_one a.problem b.problem
      (same_reaching graph other same a.problem b.problem a.of b.of) json other.names text text' (named_one a.lists) b.lists
  analysis_one Available a b = solution_one a.problem b.problem
      (same_available graph other same a.problem b.problem a.of b.of) json other.names text text' (named_one a.lists) b.lists
  analysis_one Busy a b = solution_one a.problem b.problem
      (same_busy graph other same a.problem b.problem a.of b.of) json other.names text text' (named_one a.lists) b.lists
  analysis_one Dominators a b = all_dominators_one graph other same text text' json a b
  analysis_one Immediate a b = all_immediate_one graph other same text text' json a b

-- ---- all forms

framed_one : (json : Bool) (P Q : List ℕ → Type 0) (text text' : List ℕ) →
    ((body body' : List ℕ) → P body → Q body' → body ≡ body') → IsFramed json P text → IsFramed json Q text' → text ≡ text'
framed_one json P Q text text' one (body, has, is) (body', has', is') =
    is ∙ ap (λ l. head json ++ l ++ tail json) (one body body' has has') ∙ sym is'

listed_one : (graph other : FlowGraph) → AreAlike graph other → (analysis : Analysis) (form : Option FlowForm) (text text' : List ℕ) →
    ListsIn analysis form graph text → ListsIn analysis form other text' → text ≡ text'
listed_one graph other same analysis None text text' a b =
    framed_one false (ListsAnalysis analysis false graph) (ListsAnalysis analysis false other) text text'
    (λ body body'. analysis_one false graph other same body body' analysis) a b
listed_one graph other same analysis (Some Json) text text' a b =
    framed_one true (ListsAnalysis analysis true graph) (ListsAnalysis analysis true other) text text'
    (λ body body'. analysis_one true graph other same body body' analysis) a b
listed_one graph other same analysis (Some DotForm) text text' a b = all_trees_one graph other same text text' a b

-- ---- graphs in DOT

dominance_lines_one : (analysis : Analysis) (json : Bool) (names before others : List (List ℕ)) → HaveSameNumbers before others →
    (text text' : List ℕ) → AreDominanceLines analysis json before names text →
    AreDominanceLines analysis json others names text' → text ≡ text'
dominance_lines_one Dominators json names before others same text text' a b =
    dominator_lines_one names before others same text text' json a b
dominance_lines_one Immediate json names before others same text text' a b =
    immediate_lines_one names before others same text text' json a b
dominance_lines_one Live json names before others same text text' a b = absurd a
dominance_lines_one Reaching json names before others same text text' a b = absurd a
dominance_lines_one Available json names before others same text text' a b = absurd a
dominance_lines_one Busy json names before others same text text' a b = absurd a

dominance_one : (analysis : Analysis) (form : Option FlowForm) (names before others : List (List ℕ)) →
    HaveSameNumbers before others → (text text' : List ℕ) → ListsDominance analysis form before names text →
    ListsDominance analysis form others names text' → text ≡ text'
dominance_one analysis None names before others same text text' a b =
    framed_one false (AreDominanceLines analysis false before names) (AreDominanceLines analysis false others names) text text'
    (λ body body'. dominance_lines_one analysis false names before others same body body') a b
dominance_one analysis (Some Json) names before others same text text' a b =
    framed_one true (AreDominanceLines analysis true before names) (AreDominanceLines analysis true others names) text text'
    (λ body body'. dominance_lines_one analysis true names before others same body body') a b
dominance_one analysis (Some DotForm) names before others same text text' a b =
    tree_one names before others same text text' a b

same_from : (names : List (List ℕ)) (edges : List (List ℕ × List ℕ)) (before others : List (List ℕ)) →
    AreFromNames names edges before → AreFromNames names edges others → HaveSameNumbers before others
same_from names edges before others a b =
    same_by (length names) (λ n m. JoinsNames names edges m n) before others a.many b.many a.each b.each

-- ---- both notations

of_one : (notation : Notation) (text : List ℕ) (analysis : Analysis) (form : Option FlowForm) (old new other : List ℕ) →
    WritesOf notation text analysis form (Some old) (Some new) → WritesOf notation text analysis form (Some old) (Some other) →
    new ≡ other
of_one Lines text analysis form old new other a b =
    let same = graphs_one text a.graph b.graph a.graph_is b.graph_is in
    a.written.1 ∙ ap (λ more. old ++ more) (listed_one a.graph b.graph same analysis form a.written.0 b.written.0
    a.written.2 b.written.2) ∙ sym b.written.1
of_one Dot text analysis form old new other a b =
    let part = texts_one text a.part b.part a.says b.says in
    let from = subst (λ (p : Part). AreFromNames (nodes_of p) p.edges a.before) part a.are_from in
    let listed = subst (λ (p : Part). ListsDominance analysis form a.before (nodes_of p) a.written.0) part a.written.2 in
    let befores = same_from (nodes_of b.part) b.part.edges a.before b.before from b.are_from in
    a.written.1 ∙ ap (λ more. old ++ more)
    (dominance_one analysis form (nodes_of b.part) a.before b.before befores a.written.0 b.written.0 listed b.written.2)
    ∙ sym b.written.1

pub outputs_one : OutputsAreOne
outputs_one said text analysis form old new other a b =
    of_one a.notation text analysis form old new other a.writes
    (subst (λ n. WritesOf n text analysis form (Some old) (Some other))
    (sym (notations_one said text a.notation b.notation a.is_in b.is_in)) b.writes)
