-- The problems of flow graphs that are alike differ in the order of their lists alone.
use Rattle.std.specs.Prelude.{◌↔◌, Contains, filter, slice_get, slice_index_or}
use Rattle.std.specs.List.{AllZip, flat_map, range_with_len}
use Rattle.std.proofs.Common.{◌≡◌, inl, inr, ℕ, Some, List, [], ◌∷◌, ◌++◌, length, drop, get_or, map, arith, refl, sym, ap, subst, ◌∙◌}
use Rattle.std.proofs.lemmas.List.{length-map}
use Rattle.vob_flow.specs.Reach.{HasWay}
use Rattle.vob_flow.specs.declared.lists.Paths.TheVariants.{AllFrom}
use Rattle.vob_flow.specs.declared.live.Flow.{Flow}
use Rattle.files_text.specs.Names.{names_in}
use Rattle.files_flow.specs.declared.flow.FlowGraph.{FlowGraph}
use Rattle.files_flow.specs.declared.nodes.Kind.TheVariants.{Reads, Writes, Next}
use Rattle.files_flow.specs.declared.problem.Problem.{Problem}
use Rattle.files_flow.specs.Available.{HasExpressions, IsAvailableProblem, IsBusyProblem, after_of}
use Rattle.files_flow.specs.Definitions.{AreGrouped, IsReachingProblem, definition_label, definitions_at, definitions_of}
use Rattle.files_flow.specs.Expressions.{AreReachedBefore, AreTransposed, IsLasting, IsOwn, Meet, expression_label, expressions_of, reads_any}
use Rattle.files_flow.specs.FlowLaws.{AreAlike}
use Rattle.files_flow.specs.Numbering.{AreDistinct}
use Rattle.files_flow.specs.Problems.{AreBefore, lists_of, next_of}
use Rattle.files_flow.proofs.NumberLemmas.{names_distinct}
use Rattle.files_flow.proofs.SameSolutionLemmas.{AreSame, HaveSameNumbers, same_by, same_equal}

-- ---- one list for each node

-- the number of an expression
own_one : (expressions : List (List ℕ)) → AreDistinct expressions → (reads own others : List ℕ) →
    IsOwn expressions reads own → IsOwn expressions reads others → own ≡ others
own_one expressions distinct [] own others a b = a ∙ sym b
own_one expressions distinct (variable ∷ reads) own others a b =
    a.2 ∙ ap (λ k. k ∷ []) (distinct a.0 b.0 (variable ∷ reads) a.1 b.1) ∙ sym b.2

module _ (expressions : List (List ℕ)) (distinct : AreDistinct expressions) (node other : Flow)
    (reads : node.reads.items ≡ other.reads.items) (writes : node.writes.items ≡ other.writes.items)
    (own others : List ℕ) where
  abbrev meets : Flow → Type 0
  meets n = Meet n.writes.items n.reads.items

  meets_there : meets node → meets other
  meets_there m = subst (λ l. Meet l other.reads.items) writes (subst (Meet node.writes.items) reads m)

  meets_back : meets other → meets node
  meets_back m = subst (λ l. Meet l node.reads.items) (sym writes) (subst (Meet other.writes.items) (sym reads) m)

  node_own : IsOwn expressions node.reads.items own → IsOwn expressions other.reads.items others → own ≡ others
  node_own a b = own_one expressions distinct other.reads.items own others
      (subst (λ l. IsOwn expressions l own) reads a) b

  lasting_one : IsLasting expressions node own → IsLasting expressions other others → own ≡ others
  lasting_one (inl a) (inl b) = a.1 ∙ sym b.1
  lasting_one (inl a) (inr b) = absurd (b.0 (meets_there a.0))
  lasting_one (inr a) (inl b) = absurd (a.0 (meets_back b.0))
  lasting_one (inr a) (inr b) = node_own a.1 b.1

abbrev reads_in : List Flow → List (List ℕ)
reads_in nodes = map (λ (node : Flow). node.reads.items) nodes

abbrev writes_in : List Flow → List (List ℕ)
writes_in nodes = map (λ (node : Flow). node.writes.items) nodes

abbrev nexts_in : List Flow → List (List ℕ)
nexts_in nodes = map (λ (node : Flow). node.next.items) nodes

-- nodes that read and write the same have the same lists
zips_one : (Q : Flow → List ℕ → Type 0) → ((node other : Flow) → node.reads.items ≡ other.reads.items →
    node.writes.items ≡ other.writes.items → (own others : List ℕ) → Q node own → Q other others → own ≡ others) →
    (nodes nodes' : List Flow) → reads_in nodes ≡ reads_in nodes' → writes_in nodes ≡ writes_in nodes' →
    (lists lists' : List (List ℕ)) → AllZip Q nodes lists → AllZip Q nodes' lists' → lists ≡ lists'
zips_one Q one [] [] reads writes [] [] a b = refl
zips_one Q one [] [] reads writes [] (l' ∷ lists') a b = absurd b
zips_one Q one [] [] reads writes (l ∷ lists) lists' a b = absurd a
zips_one Q one [] (n' ∷ nodes') reads writes lists lists' a b = absurd (omega (arith, ap length reads))
zips_one Q one (n ∷ nodes) [] reads writes lists lists' a b = absurd (omega (arith, ap length reads))
zips_one Q one (n ∷ nodes) (n' ∷ nodes') reads writes [] lists' a b = absurd a
zips_one Q one (n ∷ nodes) (n' ∷ nodes') reads writes (l ∷ lists) [] a b = absurd b
zips_one Q one (n ∷ nodes) (n' ∷ nodes') reads writes (l ∷ lists) (l' ∷ lists') a b =
    ap (λ h. h ∷ lists) (one n n' (ap (λ x. get_or x 0 []) reads) (ap (λ x. get_or x 0 []) writes) l l' a.0 b.0)
    ∙ ap (λ t. l' ∷ t) (zips_one Q one nodes nodes' (ap (drop 1) reads) (ap (drop 1) writes) lists lists' a.1 b.1)

after_nexts : (k : ℕ) (nodes : List Flow) → map (λ (node : Flow). after_of k node.next.items) nodes
    ≡ map (after_of k) (nexts_in nodes)
after_nexts k [] = refl
after_nexts k (node ∷ nodes) = ap (λ l. after_of k node.next.items ∷ l) (after_nexts k nodes)

-- ---- lists of places

grouped_one : {count count' : ℕ} {keys keys' : List ℕ} {lists lists' : List (List ℕ)} → count ≡ count' → keys ≡ keys' →
    AreGrouped count keys lists → AreGrouped count' keys' lists' → HaveSameNumbers lists lists'
grouped_one {count} {count'} {keys} {keys'} {lists} {lists'} counts same a b =
    same_by count (λ n k. slice_get keys k ≡ Some n) lists lists' a.many (b.many ∙ sym counts) a.each
    (λ n k less. subst (λ l. Contains (slice_index_or lists' n []) k ↔ (slice_get l k ≡ Some n)) (sym same)
    (b.each n k (omega (arith, less, counts))))

transposed_one : {count count' : ℕ} {given given' lists lists' : List (List ℕ)} → count ≡ count' → given ≡ given' →
    AreTransposed count given lists → AreTransposed count' given' lists' → HaveSameNumbers lists lists'
transposed_one {count} {count'} {given} {given'} {lists} {lists'} counts same a b =
    same_by count (λ n m. Contains (slice_index_or given m []) n) lists lists' a.many (b.many ∙ sym counts) a.each
    (λ n m less. subst (λ l. Contains (slice_index_or lists' n []) m ↔ Contains (slice_index_or l m []) n) (sym same)
    (b.each n m (omega (arith, less, counts))))

-- ---- the problems of graphs that are alike

module _ (graph other : FlowGraph) (same : AreAlike graph other) where
  abbrev own : List Flow
  own = graph.nodes.items

  abbrev others : List Flow
  others = other.nodes.items

  pub same_reads : reads_in own ≡ reads_in others
  same_reads = same.lists Reads

  pub same_writes : writes_in own ≡ writes_in others
  same_writes = same.lists Writes

  pub same_nexts : nexts_in own ≡ nexts_in others
  same_nexts = same.lists Next

  pub same_count : length own ≡ length others
  same_count = sym (length-map own (λ (node : Flow). node.reads.items)) ∙ ap length same_reads
      ∙ length-map others (λ (node : Flow). node.reads.items)

  same_definitions : definitions_of own ≡ definitions_of others
  same_definitions =
      ap (λ (l : List (List ℕ)). flat_map (λ n. definitions_at n (slice_index_or l n []))
      (range_with_len 0 (length own)))
      same_writes
      ∙ ap (λ k. flat_map (λ n. definitions_at n (slice_index_or (writes_in others) n [])) (range_with_len 0 k))
      same_count

  same_expressions : expressions_of own ≡ expressions_of others
  same_expressions = ap (λ l. names_in (filter reads_any l)) same_reads

  pub same_before : (before before' : List (List ℕ)) → AreBefore own before → AreBefore others before' →
      HaveSameNumbers before before'
  same_before before before' a b =
      same_by (length own) (λ n m. Contains (next_of own m) n) before before' a.count (b.count ∙ sym same_count) a.each
      (λ n m less. subst (λ (l : List (List ℕ)). Contains (slice_index_or before' n []) m ↔ Contains
      (slice_index_or l m []) n)
      (sym same_nexts) (b.each n m (omega (arith, less, same_count))))

  same_reached : (before before' : List (List ℕ)) → AreReachedBefore own before → AreReachedBefore others before' →
      HaveSameNumbers before before'
  same_reached before before' a b =
      same_by (length own) (λ n m. Contains (next_of own m) n × HasWay (nexts_in own) 0 m) before before' a.count
      (b.count ∙ sym same_count) a.each
      (λ n m less. subst (λ (l : List (List ℕ)). Contains (slice_index_or before' n []) m
      ↔ (Contains (slice_index_or l m []) n × HasWay l 0 m)) (sym same_nexts)
      (b.each n m (omega (arith, less, same_count))))

  module _ (problem problem' : Problem) where
    pub same_reaching : IsReachingProblem graph problem → IsReachingProblem other problem' → AreSame problem problem'
    same_reaching a b = record {
      paths = a.paths ∙ sym b.paths;
      forward = a.forward ∙ sym b.forward;
      labels = a.labels ∙ ap (λ l. map (definition_label l graph.variables) (definitions_of own)) same.names
          ∙ ap (λ l. map (definition_label other.names l) (definitions_of own)) same.variables
          ∙ ap (map (definition_label other.names other.variables)) same_definitions ∙ sym b.labels;
      generates = grouped_one same_count (ap (map (λ (made : ℕ × ℕ). made.0)) same_definitions) a.generates b.generates;
      by_variable = grouped_one (ap length same.variables) (ap (map (λ (made : ℕ × ℕ). made.1)) same_definitions)
          a.by_variable b.by_variable;
      writes = a.writes ∙ same_writes ∙ sym b.writes;
      from = same_before (lists_of problem.from.items) (lists_of problem'.from.items) a.from b.from;
    }

    same_labels : HasExpressions graph problem → HasExpressions other problem' →
        lists_of problem.labels.items ≡ lists_of problem'.labels.items
    same_labels a b = a.labels ∙ ap (λ l. map (expression_label l) (expressions_of own)) same.variables
        ∙ ap (map (expression_label other.variables)) same_expressions ∙ sym b.labels

    same_by_variable : HasExpressions graph problem → HasExpressions other problem' →
        HaveSameNumbers (lists_of problem.by_variable.items) (lists_of problem'.by_variable.items)
    same_by_variable a b = transposed_one (ap length same.variables) same_expressions a.by_variable b.by_variable

    apart : AreDistinct (expressions_of own)
    apart = names_distinct (filter reads_any (reads_in own))

    pub same_available : IsAvailableProblem graph problem → IsAvailableProblem other problem' → AreSame problem problem'
    same_available a b = record {
      paths = a.paths ∙ sym b.paths;
      forward = a.forward ∙ sym b.forward;
      labels = same_labels a.expressions b.expressions;
      generates = same_equal (lists_of problem.generates.items) (lists_of problem'.generates.items)
          (zips_one (IsLasting (expressions_of own)) (lasting_one (expressions_of own) apart) own others same_reads
          same_writes
          (lists_of problem.generates.items) (lists_of problem'.generates.items) a.generates
          (subst (λ e. AllZip (IsLasting e) others (lists_of problem'.generates.items)) (sym same_expressions)
          b.generates));
      by_variable = same_by_variable a.expressions b.expressions;
      writes = a.writes ∙ same_writes ∙ sym b.writes;
      from = same_reached (lists_of problem.from.items) (lists_of problem'.from.items) a.from b.from;
    }

    same_own : (lists lists' : List (List ℕ)) →
        AllZip (λ (node : Flow). IsOwn (expressions_of own) node.reads.items) own lists →
        AllZip (λ (node : Flow). IsOwn (expressions_of others) node.reads.items) others lists' → lists ≡ lists'
    same_own lists lists' a b =
        zips_one (λ (node : Flow). IsOwn (expressions_of own) node.reads.items)
        (node_own (expressions_of own) apart) own
        others same_reads same_writes lists lists' a
        (subst (λ e. AllZip (λ (node : Flow). IsOwn e node.reads.items) others lists') (sym same_expressions) b)

    pub same_busy : IsBusyProblem graph problem → IsBusyProblem other problem' → AreSame problem problem'
    same_busy a b = record {
      paths = a.paths ∙ ap AllFrom same_count ∙ sym b.paths;
      forward = a.backward ∙ sym b.backward;
      labels = same_labels a.expressions b.expressions;
      generates = same_equal (lists_of problem.generates.items) (lists_of problem'.generates.items)
          (a.generates ∙ ap (λ (l : List (List ℕ)). l ++ [] ∷ []) (same_own a.own b.own a.are_own b.are_own)
          ∙ sym b.generates);
      by_variable = same_by_variable a.expressions b.expressions;
      writes = a.writes ∙ ap (λ (l : List (List ℕ)). l ++ [] ∷ []) same_writes ∙ sym b.writes;
      from = same_equal (lists_of problem.from.items) (lists_of problem'.from.items) (a.from
          ∙ ap (λ (l : List (List ℕ)). l ++ [] ∷ []) (after_nexts (length own) own
          ∙ ap (map (after_of (length own))) same_nexts
          ∙ ap (λ k. map (after_of k) (nexts_in others)) same_count ∙ sym (after_nexts (length others) others))
          ∙ sym b.from);
    }
