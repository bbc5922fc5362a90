-- Names that get their numbers, one after another.
use Rattle.std.specs.Prelude.{All, Contains, cond, filter, slice_get, if◌then◌else◌}
use Rattle.std.specs.List.{fold, list_any}
use Rattle.std.specs.Cmp.Lexicographic.{pointwise}
use Rattle.std.proofs.Common.{◌≡◌, ◌≢◌, ◌==◌, ◌&&◌, ℕ, zero, suc, ◌<◌, ◌⊎◌, inl, inr, Bool, true, false, not, nat_eq, Option, Some, take, drop, List, [], ◌∷◌, ◌++◌, length, map, set, arith, refl, sym, ap, subst, ◌∙◌}
use Rattle.std.proofs.lemmas.Bool.{cases_eq, false_from_ne_true, true≢false}
use Rattle.std.proofs.lemmas.Grind.{common_steps}
use Rattle.std.proofs.lemmas.Option.{get_or_from_slice_get, same_Some, none-some, slice_get_within}
use Rattle.std.proofs.lemmas.Slice.Eq.{bytes_eq-Decides}
use Rattle.std.proofs.lemmas.List.{map-append, length-append, length-set}
use Rattle.std.proofs.lemmas.List.Elements.{All-append, All-nil, All-push, filter-append}
use Rattle.std.proofs.lemmas.List.Sums.{fold-append}
use Rattle.vob_flow.specs.declared.live.Flow.{Flow}
use Rattle.files_text.specs.Names.{names_in, with_name}
use Rattle.files_text.specs.Words.{Token}
use Rattle.files_text.proofs.NamesLemmas.{grown}
use Rattle.files_flow.specs.declared.nodes.Kind.{Kind}
use Rattle.files_flow.specs.declared.nodes.Kind.TheVariants.{Reads, Writes, Next}
use Rattle.files_flow.specs.Flows.{AreNumbers, is_kind, list_of, names_for, said_of, variables_in}
use Rattle.files_flow.specs.Nodes.{AreClosed, AreNodes, IsPart, Mention}
use Rattle.files_flow.specs.Nodes.AreClosed.{nothing, closed}
use Rattle.files_flow.specs.Nodes.AreNodes.{no_node, node}
use Rattle.files_flow.specs.Nodes.IsPart.{empty, keyed}
use Rattle.files_flow.specs.FlowFaults.{IsFound}
use Rattle.std.specs.Prelude.{Result, Ok, Err, IfErr, IfOk}
use Rattle.files_text.specs.declared.fault.Fault.TheVariants.{Line, Memory, Input, Output}
use Rattle.files_flow.specs.declared.fault.FlowFault.{FlowFault}
use Rattle.files_flow.specs.declared.fault.FlowFault.TheVariants.{NoNode, NoTree, NoVariables, Text, Twice}
use Rattle.files_flow.specs.declared.flow.FlowGraph.{FlowGraph}
use Rattle.files_flow.specs.Flows.{IsFlowOf}
use Rattle.files_flow.specs.Nodes.{HasNodes}
use Rattle.files_flow.specs.FlowFaults.{IsUnread}
use Rattle.files_flow.specs.Numbering.{AreUnnumbered, IsUnnumbered}
use Rattle.files_flow.specs.Numbering.{AreDistinct, AreSound, HasMore, HaveSaid, with_number, with_variable}
use Rattle.files_flow.proofs.NodeLemmas.{has}

at_end : {X : Type 0} (xs : List X) (y : X) (i : ℕ) (x : X) → slice_get (xs ++ y ∷ []) i ≡ Some x →
    (slice_get xs i ≡ Some x) ⊎ ((i ≡ length xs) × (y ≡ x))
at_end [] y zero x there = inr (refl, same_Some y x there)
at_end [] y (suc i) x there = absurd (none-some x there)
at_end (z ∷ xs) y zero x there = inl there
at_end (z ∷ xs) y (suc i) x there = elim (at_end xs y i x there) [
  | inl old ↦ inl old
  | inr last ↦ inr (ap suc last.0, last.1)
]

pub distinct_more : (names : List (List ℕ)) (name : List ℕ) → ¬ Contains names name → AreDistinct names →
    AreDistinct (names ++ name ∷ [])
distinct_more names name new distinct i j x at_i at_j =
    elim (at_end names name i x at_i) [
      | inl old ↦ elim (at_end names name j x at_j) [
        | inl same ↦ distinct i j x old same
        | inr last ↦ absurd (new (subst (Contains names) (sym last.1) (has names i x old)))
      ]
      | inr end ↦ elim (at_end names name j x at_j) [
        | inl old ↦ absurd (new (subst (Contains names) (sym end.1) (has names j x old)))
        | inr last ↦ end.0 ∙ sym last.0
      ]
    ]

distinct_with : (names : List (List ℕ)) (name : List ℕ) → AreDistinct names → AreDistinct (with_name names name)
distinct_with names name distinct = elim (grown names name) [
  | inl same ↦ subst AreDistinct (sym same) distinct
  | inr more ↦ subst AreDistinct (sym more.0) (distinct_more names name more.1 distinct)
]

distinct_fold : (words names : List (List ℕ)) → AreDistinct names → AreDistinct (fold with_name names words)
distinct_fold [] names distinct = distinct
distinct_fold (word ∷ words) names distinct = distinct_fold words (with_name names word) (distinct_with names word distinct)

none_distinct : AreDistinct []
none_distinct i j x at_i at_j = absurd (none-some x at_i)

pub names_distinct : (words : List (List ℕ)) → AreDistinct (names_in words)
names_distinct words = distinct_fold words [] none_distinct

get_kept : (names : List (List ℕ)) (name : List ℕ) (k : ℕ) (x : List ℕ) → slice_get names k ≡ Some x →
    slice_get (names ++ name ∷ []) k ≡ Some x
get_kept [] name k x there = absurd (none-some x there)
get_kept (y ∷ names) name zero x there = there
get_kept (y ∷ names) name (suc k) x there = get_kept names name k x there

pub name_kept : (names : List (List ℕ)) (name : List ℕ) (k : ℕ) (x : List ℕ) → slice_get names k ≡ Some x →
    slice_get (with_name names name) k ≡ Some x
name_kept names name k x there = elim (grown names name) [
  | inl same ↦ ap (λ l. slice_get l k) same ∙ there
  | inr more ↦ ap (λ l. slice_get l k) more.0 ∙ get_kept names name k x there
]

-- numbers stay those of their texts as names are added
numbers_kept : (old new : List (List ℕ)) → ((k : ℕ) (x : List ℕ) → slice_get old k ≡ Some x → slice_get new k ≡ Some x) →
    (numbers : List ℕ) (texts : List (List ℕ)) → AreNumbers old numbers texts → AreNumbers new numbers texts
numbers_kept old new kept [] [] are = tt
numbers_kept old new kept [] (t ∷ texts) are = absurd are
numbers_kept old new kept (n ∷ numbers) [] are = absurd are
numbers_kept old new kept (n ∷ numbers) (t ∷ texts) are = (kept n t are.0, numbers_kept old new kept numbers texts are.1)

module _ (names : List (List ℕ)) (distinct : AreDistinct names) (number : ℕ) (text : List ℕ)
    (at : slice_get names number ≡ Some text) where
  same_test : (n : ℕ) (t : List ℕ) → slice_get names n ≡ Some t → (n == number) ≡ pointwise nat_eq text t
  same_test n t there = elim (cases_eq n number) [
    | inl same ↦
        let is : t ≡ text = same_Some t text (sym there ∙ ap (slice_get names) same ∙ at) in
        grind (arith, common_steps, same) ∙ sym ((bytes_eq-Decides text t).1 (sym is))
    | inr other ↦ grind (arith, common_steps, other) ∙ sym (false_from_ne_true (pointwise nat_eq text t) (λ on.
        other (distinct n number text (there ∙ ap Some (sym ((bytes_eq-Decides text t).0 on))) at)))
  ]

  any_same : (numbers : List ℕ) (texts : List (List ℕ)) → AreNumbers names numbers texts →
      list_any (λ n. n == number) numbers ≡ list_any (pointwise nat_eq text) texts
  any_same [] [] are = refl
  any_same [] (t ∷ texts) are = absurd are
  any_same (n ∷ numbers) [] are = absurd are
  any_same (n ∷ numbers) (t ∷ texts) are = rw (same_test n t are.0, any_same numbers texts are.1) refl

  numbers_push : (numbers : List ℕ) (texts : List (List ℕ)) → AreNumbers names numbers texts →
      AreNumbers names (numbers ++ number ∷ []) (texts ++ text ∷ [])
  numbers_push [] [] are = (at, tt)
  numbers_push [] (t ∷ texts) are = absurd are
  numbers_push (n ∷ numbers) [] are = absurd are
  numbers_push (n ∷ numbers) (t ∷ texts) are = (are.0, numbers_push numbers texts are.1)

  numbers_more : (numbers : List ℕ) (texts : List (List ℕ)) → AreNumbers names numbers texts →
      AreNumbers names (with_number numbers number) (with_name texts text)
  numbers_more numbers texts are = by (list_any (λ n. n == number) numbers) (list_any (pointwise nat_eq text) texts) (any_same numbers texts are)
    where
      by : (a b : Bool) → a ≡ b →
          AreNumbers names (if a then numbers else numbers ++ number ∷ []) (if b then texts else texts ++ text ∷ [])
      by true true same = are
      by true false same = absurd (true≢false same)
      by false true same = absurd (true≢false (sym same))
      by false false same = numbers_push numbers texts are

-- one mention more among those of which p is true
module _ (p : Mention → Bool) (mentions : List Mention) (mention : Mention) where
  abbrev texts : List Mention → List (List ℕ)
  texts list = map (λ (m : Mention). m.name.text) (filter p list)

  chosen_more : names_in (texts (mentions ++ mention ∷ []))
      ≡ cond (p mention) (with_name (names_in (texts mentions)) mention.name.text) (names_in (texts mentions))
  chosen_more =
      ap (λ l. names_in (map (λ (m : Mention). m.name.text) l)) (filter-append p mentions (mention ∷ []))
      ∙ ap names_in (map-append (λ (m : Mention). m.name.text) (filter p mentions) (filter p (mention ∷ [])))
      ∙ fold-append with_name [] (texts mentions) (texts (mention ∷ []))
      ∙ by (p mention)
    where
      by : (b : Bool) → fold with_name (names_in (texts mentions)) (map (λ (m : Mention). m.name.text) (cond b (mention ∷ []) []))
          ≡ cond b (with_name (names_in (texts mentions)) mention.name.text) (names_in (texts mentions))
      by true = refl
      by false = refl

kind_is : (kind other : Kind) → is_kind kind other ≡ true → kind ≡ other
kind_is Reads Reads is = refl
kind_is Reads Writes is = absurd (true≢false (sym is))
kind_is Reads Next is = absurd (true≢false (sym is))
kind_is Writes Reads is = absurd (true≢false (sym is))
kind_is Writes Writes is = refl
kind_is Writes Next is = absurd (true≢false (sym is))
kind_is Next Reads is = absurd (true≢false (sym is))
kind_is Next Writes is = absurd (true≢false (sym is))
kind_is Next Next is = refl

get_set : {X : Type 0} (xs : List X) (i : ℕ) (a : X) (j : ℕ) (x : X) → slice_get (set xs i a) j ≡ Some x →
    ((j ≡ i) × (a ≡ x)) ⊎ ((j ≢ i) × (slice_get xs j ≡ Some x))
get_set [] i a j x there = absurd (none-some x there)
get_set (y ∷ xs) zero a zero x there = inl (refl, same_Some a x there)
get_set (y ∷ xs) zero a (suc j) x there = inr (λ same. omega (arith, same), there)
get_set (y ∷ xs) (suc i) a zero x there = inr (λ same. omega (arith, same), there)
get_set (y ∷ xs) (suc i) a (suc j) x there = elim (get_set xs i a j x there) [
  | inl same ↦ inl (ap suc same.0, same.1)
  | inr other ↦ inr (λ same. other.0 (omega (arith, same)), other.1)
]

module _ (names old-variables variables : List (List ℕ)) (nodes : List Flow) (distinct : AreDistinct names)
    (mention : Mention) (number : ℕ) (old new : Flow) (mentions : List Mention)
    (variables_are : variables ≡ with_variable old-variables mention)
    (at : slice_get (names_for names variables mention.kind) number ≡ Some mention.name.text)
    (was : slice_get nodes mention.node ≡ Some old) (got : HasMore mention.kind number old new)
    (said : HaveSaid names old-variables nodes mentions) where
  all_variables : variables ≡ variables_in (mentions ++ mention ∷ [])
  all_variables = variables_are ∙ ap (λ l. with_variable l mention) said.variables_are
      ∙ sym (chosen_more (λ m. not (is_kind m.kind Next)) mentions mention)

  variable_kept : (k : ℕ) (x : List ℕ) → slice_get old-variables k ≡ Some x → slice_get variables k ≡ Some x
  variable_kept k x there = ap (λ l. slice_get l k) variables_are ∙ by (not (is_kind mention.kind Next))
    where
      by : (b : Bool) → slice_get (cond b (with_name old-variables mention.name.text) old-variables) k ≡ Some x
      by true = name_kept old-variables mention.name.text k x there
      by false = there

  kept : (kind : Kind) (k : ℕ) (x : List ℕ) → slice_get (names_for names old-variables kind) k ≡ Some x →
      slice_get (names_for names variables kind) k ≡ Some x
  kept Reads k x there = variable_kept k x there
  kept Writes k x there = variable_kept k x there
  kept Next k x there = there

  distinct_variables : AreDistinct variables
  distinct_variables =
      let chosen = filter (λ (m : Mention). not (is_kind m.kind Next)) (mentions ++ mention ∷ []) in
      subst AreDistinct (sym all_variables) (names_distinct (map (λ (m : Mention). m.name.text) chosen))

  distinct_for : (kind : Kind) → AreDistinct (names_for names variables kind)
  distinct_for Reads = distinct_variables
  distinct_for Writes = distinct_variables
  distinct_for Next = distinct

  before : (n : ℕ) (flow : Flow) → slice_get nodes n ≡ Some flow → (kind : Kind) →
      AreNumbers (names_for names variables kind) (list_of kind flow) (names_in (said_of n kind mentions))
  before n flow there kind = numbers_kept (names_for names old-variables kind) _ (kept kind) _ _ (said.flows.each n flow there kind)

  -- the node that the mention is of
  here : (kind : Kind) (b : Bool) → is_kind mention.kind kind ≡ b →
      AreNumbers (names_for names variables kind) (cond b (with_number (list_of kind old) number) (list_of kind old))
      (cond b (with_name (names_in (said_of mention.node kind mentions)) mention.name.text) (names_in (said_of mention.node kind mentions)))
  here kind true is =
      let same = kind_is mention.kind kind is in
      numbers_more (names_for names variables kind) (distinct_for kind) number mention.name.text
      (subst (λ k. slice_get (names_for names variables k) number ≡ Some mention.name.text) same at) _ _ (before mention.node old was kind)
  here kind false is = before mention.node old was kind

  here_is : (kind : Kind) → AreNumbers (names_for names variables kind) (list_of kind new)
      (names_in (said_of mention.node kind (mentions ++ mention ∷ [])))
  here_is kind =
      let on : (mention.node == mention.node) ≡ true = grind (arith, common_steps) in
      rw (chosen_more (λ m. (m.node == mention.node) && is_kind m.kind kind) mentions mention, on, got kind)
      (here kind (is_kind mention.kind kind) refl)

  each : (n : ℕ) (flow : Flow) → slice_get (set nodes mention.node new) n ≡ Some flow → (kind : Kind) →
      AreNumbers (names_for names variables kind) (list_of kind flow) (names_in (said_of n kind (mentions ++ mention ∷ [])))
  each n flow there kind = elim (get_set nodes mention.node new n flow there) [
    | inl same ↦ subst (λ k. AreNumbers (names_for names variables kind) (list_of kind flow)
        (names_in (said_of k kind (mentions ++ mention ∷ [])))) (sym same.0)
        (subst (λ f. AreNumbers (names_for names variables kind) (list_of kind f)
        (names_in (said_of mention.node kind (mentions ++ mention ∷ [])))) same.1 (here_is kind))
    | inr other ↦
        let off : (mention.node == n) ≡ false = grind (arith, common_steps, other.0) in
        rw (chosen_more (λ m. (m.node == n) && is_kind m.kind kind) mentions mention, off) (before n flow other.1 kind)
  ]

  pub have_more : HaveSaid names variables (set nodes mention.node new) (mentions ++ mention ∷ [])
  have_more = record {
    found = All-push (IsFound names) mentions mention said.found (λ next. has names number mention.name.text
        (subst (λ k. slice_get (names_for names variables k) number ≡ Some mention.name.text) next at));
    variables_are = all_variables;
    flows = record { count = length-set nodes mention.node new ∙ said.flows.count; each = each };
  }

-- the mentions of a part, and of parts, are those of their node
of_part : (n : ℕ) (kind : Option Kind) (words : List Token) (mentions : List Mention) → IsPart n kind words mentions →
    (count : ℕ) → n < count → All (λ m. m.node < count) mentions
of_part n kind words mentions empty count less = All-nil (λ (m : Mention). m.node < count)
of_part n kind words mentions (keyed {kind = own} {names = called} key all) count less = by called
  where
    by : (list : List Token) → All (λ (m : Mention). m.node < count) (map (λ name. record { node = n; kind = own; name = name }) list)
    by [] = All-nil (λ (m : Mention). m.node < count)
    by (w ∷ list) = All-append (λ (m : Mention). m.node < count) (record { node = n; kind = own; name = w } ∷ []) _
        (All-push (λ (m : Mention). m.node < count) [] (record { node = n; kind = own; name = w }) (All-nil (λ (m : Mention). m.node < count)) less) (by list)

of_parts : (n : ℕ) (words : List Token) (mentions : List Mention) → AreClosed n words mentions → (count : ℕ) → n < count →
    All (λ m. m.node < count) mentions
of_parts n words mentions nothing count less = All-nil (λ (m : Mention). m.node < count)
of_parts n words mentions (closed {words = w} {part = p} semicolon {mentions = early} {own = own} {kind = kind} are part text) count less =
    All-append (λ (m : Mention). m.node < count) early own (of_parts n w early are count less) (of_part n kind p own part count less)

raised : (count more : ℕ) (mentions : List Mention) → count < more → All (λ m. m.node < count) mentions →
    All (λ m. m.node < more) mentions
raised count more mentions less all k d inside = omega (arith, less, all k d inside)

pub are_sound : (last : Option ℕ) (part : Option Kind) (words : List Token) (names : List (List ℕ)) (mentions : List Mention) →
    AreNodes last part words names mentions → AreSound names mentions
are_sound last part words names mentions no_node = (none_distinct, All-nil (λ (m : Mention). m.node < 0))
are_sound last part words names mentions
    (node {last = l} {before = b} {kind = kind} {words = w} {shut = s} {part = p} name colon {names = old}
    {mentions = early} {own = own} {others = others} nodes begins is shut_is part_is lines) =
    let sound = are_sound l b w old early nodes in
    let long = length-append old (name.text ∷ []) in
    let count = length (old ++ name.text ∷ []) in
    let less : length old < count = omega (arith, long) in (
      distinct_more old name.text begins.2 sound.0,
      All-append (λ (m : Mention). m.node < count) (early ++ own) others
          (All-append (λ (m : Mention). m.node < count) early own (raised (length old) count early less sound.1)
          (of_parts (length old) s own shut_is count less))
          (of_part (length old) kind p others part_is count less),
    )

-- some are before one, and others behind it
pub cut_at : {X Y : Type 0} (f : X → Y) (xs : List X) (n : ℕ) (x : X) → slice_get xs n ≡ Some x →
    map f xs ≡ map f (take n xs) ++ f x ∷ map f (drop (suc n) xs)
cut_at f [] n x there = absurd (none-some x there)
cut_at f (y ∷ xs) zero x there = ap (λ z. f z ∷ map f xs) (same_Some y x there)
cut_at f (y ∷ xs) (suc n) x there = ap (λ l. f y ∷ l) (cut_at f xs n x there)

pub all_at : {X : Type 0} (P : X → Type 0) (xs : List X) (n : ℕ) (x : X) → slice_get xs n ≡ Some x → All P xs → P x
all_at P xs n x there all = subst P (get_or_from_slice_get xs n x x there) (all n x (slice_get_within xs n x there))

-- the flow graph of nodes that were read
module _ (text : List ℕ) (names : List (List ℕ)) (mentions : List Mention) (has-nodes : HasNodes text names mentions) where
  pub flow_read : (result : Result FlowGraph FlowFault) → IfOk result (λ graph. graph.names ≡ names) →
      IfOk result (λ graph. HaveSaid graph.names graph.variables graph.nodes.items mentions) → IfOk result (IsFlowOf text)
  flow_read (Err fault) same said = tt
  flow_read (Ok graph) same said = record {
    mentions = mentions;
    has = rw same has-nodes;
    found = said.found;
    variables = said.variables_are;
    flows = said.flows;
  }

  absent : (early : List Mention) (mention : Mention) (late : List Mention) → mentions ≡ early ++ mention ∷ late →
      All (IsFound names) early → (fault : FlowFault) → IsUnnumbered names mention fault → IsUnread text fault
  absent early mention late cut found (Text Memory) is = (has-nodes.words, has-nodes.are_words, tt)
  absent early mention late cut found (NoNode line column name) is = (
    has-nodes.words,
    has-nodes.are_words,
    record {
      last = has-nodes.last;
      part = has-nodes.part;
      names = names;
      early = early;
      mention = mention;
      late = late;
      are_nodes = rw cut at has-nodes.are_nodes;
      found = found;
      next = is.0;
      absent = is.1.0;
      called = is.1.1;
    },
  )
  absent early mention late cut found (Text (Input error)) is = absurd is
  absent early mention late cut found (Text (Output error)) is = absurd is
  absent early mention late cut found (Text (Line line column expected)) is = absurd is
  absent early mention late cut found (Twice line column name) is = absurd is
  absent early mention late cut found NoVariables is = absurd is
  absent early mention late cut found NoTree is = absurd is

  pub flow_unread : (result : Result FlowGraph FlowFault) → IfErr result (AreUnnumbered names mentions) →
      IfErr result (IsUnread text)
  flow_unread (Ok graph) is = tt
  flow_unread (Err fault) (inl same) = rw same (has-nodes.words, has-nodes.are_words, tt)
  flow_unread (Err fault) (inr (early, mention, late, cut, found, is)) = absent early mention late cut found fault is
