-- A text has one flow graph.
use Rattle.std.specs.Prelude.{filter, slice_get}
use Rattle.std.proofs.Common.{◌≡◌, ℕ, suc, Some, List, [], ◌∷◌, length, map, not, arith, refl, sym, ap, subst, ◌∙◌}
use Rattle.vob_flow.specs.declared.live.Flow.{Flow}
use Rattle.files_text.specs.Names.{names_in}
use Rattle.files_text.proofs.OneLemmas.{words_one}
use Rattle.files_flow.specs.declared.flow.FlowGraph.{FlowGraph}
use Rattle.files_flow.specs.declared.nodes.Kind.{Kind}
use Rattle.files_flow.specs.declared.nodes.Kind.TheVariants.{Reads, Writes, Next}
use Rattle.files_flow.specs.FlowLaws.{AreAlike, GraphsAreOne}
use Rattle.files_flow.specs.Flows.{AreNumbers, IsFlowOf, is_kind, list_of, names_for, said_of, variables_in}
use Rattle.files_flow.specs.Nodes.{Mention}
use Rattle.files_flow.specs.Numbering.{AreDistinct}
use Rattle.files_flow.proofs.NumberLemmas.{are_sound, names_distinct}
use Rattle.files_flow.proofs.SameNodesLemmas.{nodes_one}

-- among distinct names texts have one list of numbers
numbers_one : (names : List (List ℕ)) → AreDistinct names → (numbers others : List ℕ) (texts : List (List ℕ)) →
    AreNumbers names numbers texts → AreNumbers names others texts → numbers ≡ others
numbers_one names distinct [] [] texts are are' = refl
numbers_one names distinct [] (m ∷ others) [] are are' = absurd are'
numbers_one names distinct [] (m ∷ others) (text ∷ texts) are are' = absurd are
numbers_one names distinct (n ∷ numbers) others [] are are' = absurd are
numbers_one names distinct (n ∷ numbers) [] (text ∷ texts) are are' = absurd are'
numbers_one names distinct (n ∷ numbers) (m ∷ others) (text ∷ texts) are are' =
    ap (λ k. k ∷ numbers) (distinct n m text are.0 are'.0)
    ∙ ap (λ l. m ∷ l) (numbers_one names distinct numbers others texts are.1 are'.1)

-- lists of what is said of items are equal if what is said of each is
maps_one : {X Y : Type 0} (f : X → Y) (xs ys : List X) → length xs ≡ length ys → ((n : ℕ) (x y : X) →
    slice_get xs n ≡ Some x → slice_get ys n ≡ Some y → f x ≡ f y) → map f xs ≡ map f ys
maps_one f [] [] count each = refl
maps_one f [] (y ∷ ys) count each = absurd (omega (arith, count))
maps_one f (x ∷ xs) [] count each = absurd (omega (arith, count))
maps_one f (x ∷ xs) (y ∷ ys) count each = ap (λ v. v ∷ map f xs) (each 0 x y refl refl)
    ∙ ap (λ l. f y ∷ l) (maps_one f xs ys (omega (arith, count)) (λ n. each (suc n)))

module _ {text : List ℕ} {graph other : FlowGraph} (a : IsFlowOf text graph) (b : IsFlowOf text other) where
  same_nodes : (graph.names ≡ other.names) × (a.mentions ≡ b.mentions)
  same_nodes = nodes_one a.has.are_nodes b.has.are_nodes (words_one a.has.are_words b.has.are_words)

  same_variables : graph.variables ≡ other.variables
  same_variables = a.variables ∙ ap variables_in same_nodes.1 ∙ sym b.variables

  distinct_variables : AreDistinct graph.variables
  distinct_variables =
      let chosen = filter (λ (m : Mention). not (is_kind m.kind Next)) a.mentions in
      subst AreDistinct (sym a.variables) (names_distinct (map (λ (m : Mention). m.name.text) chosen))

  distinct_for : (kind : Kind) → AreDistinct (names_for graph.names graph.variables kind)
  distinct_for Reads = distinct_variables
  distinct_for Writes = distinct_variables
  distinct_for Next = (are_sound a.has.last a.has.part a.has.words graph.names a.mentions a.has.are_nodes).0

  same_list : (kind : Kind) (n : ℕ) (flow flow' : Flow) → slice_get graph.nodes.items n ≡ Some flow →
      slice_get other.nodes.items n ≡ Some flow' → list_of kind flow ≡ list_of kind flow'
  same_list kind n flow flow' is is' =
      numbers_one (names_for graph.names graph.variables kind) (distinct_for kind) (list_of kind flow)
      (list_of kind flow') (names_in (said_of n kind a.mentions)) (a.flows.each n flow is kind)
      (rw (same_nodes.0, same_variables, same_nodes.1) (b.flows.each n flow' is' kind))

  alike : AreAlike graph other
  alike = record {
    names = same_nodes.0;
    variables = same_variables;
    lists = λ kind. maps_one (list_of kind) graph.nodes.items other.nodes.items
        (a.flows.count ∙ ap length same_nodes.0 ∙ sym b.flows.count) (same_list kind);
  }

pub graphs_one : GraphsAreOne
graphs_one text graph other a b = alike a b
