-- A text has one graph, and one text for each part of its closure.
use Rattle.std.proofs.Common.{◌≡◌, ◌↔◌, Option, Some, inl, inr, ℕ, ◌<◌, List, [], ◌∷◌, ◌++◌, map, arith, refl, sym, ap, subst, ◌∙◌}
use Rattle.vob_flow.specs.Closure.{IsEdge, Leads}
use Rattle.files_dot.specs.Graphs.{JoinsNames, Part as DotPart, nodes_of}
use Rattle.files_dot.specs.declared.notation.Notation.{Notation}
use Rattle.files_dot.specs.declared.notation.Notation.TheVariants.{Dot, Lines}
use Rattle.files_dot.proofs.OneGraphLemmas.{notations_one, texts_one}
use Rattle.files_dot.proofs.PairLemmas.{Distinct, distinct_names}
use Rattle.files_text.specs.Words.{Token}
use Rattle.files_text.proofs.ListLemmas.{sorted_one}
use Rattle.files_text.proofs.OneLemmas.{words_one}
use Rattle.files_graph.specs.ClosureLaws.{GraphsAreOne, HaveSameEdges, OutputsAreOne}
use Rattle.files_graph.specs.ClosureText.{IsBefore, ListsEdges, ListsNodes, ListsPart}
use Rattle.files_graph.specs.GraphForms.{edges_text, nodes_text}
use Rattle.files_graph.specs.declared.form.GraphForm.{GraphForm}
use Rattle.files_graph.specs.Edges.{AreEdges}
use Rattle.files_graph.specs.Closures.{WritesPartOf}
use Rattle.files_graph.specs.Graphs.{IsGraphOf, Says}
use Rattle.files_graph.specs.declared.closure.Part.{Part}
use Rattle.files_graph.specs.declared.closure.Part.TheVariants.{Edges, Fewest, From}
use Rattle.files_graph.proofs.SameGraphLemmas.{leads_same, reduced_same}

-- ---- one graph

-- words are lines of two names in one way
edges_one : (words : List Token) (edges others : List (List ℕ × List ℕ)) → AreEdges words edges →
    AreEdges words others → edges ≡ others
edges_one [] [] [] are are' = refl
edges_one [] [] (other ∷ others) are are' = absurd are'
edges_one [] (edge ∷ edges) others are are' = absurd are
edges_one (from ∷ []) edges others are are' = absurd are
edges_one (from ∷ to ∷ words) [] others are are' = absurd are
edges_one (from ∷ to ∷ words) (edge ∷ edges) [] are are' = absurd are'
edges_one (from ∷ to ∷ words) (edge ∷ edges) (other ∷ others) are are' =
    ap (λ e. e ∷ edges) (are.4 ∙ sym are'.4) ∙ ap (λ l. other ∷ l) (edges_one words edges others are.5 are'.5)

-- a text says one thing of a graph
says_one : (notation : Notation) (text : List ℕ) (part other : DotPart) → Says notation text part →
    Says notation text other → part ≡ other
says_one Lines text part other a b =
    let words = words_one a.are_words b.are_words in
    let edges = edges_one b.words part.edges other.edges
    (subst (λ list. AreEdges list part.edges) words a.are_edges) b.are_edges in
    let mentions = a.mentioned ∙ ap (λ list. map (λ (word : Token). word.text) list) words ∙ sym b.mentioned in
    ap (λ m. record { mentions = m; edges = part.edges }) mentions
    ∙ ap (λ e. record { mentions = other.mentions; edges = e }) edges
says_one Dot text part other a b = texts_one text part other a b

-- a graph has no name twice
names_apart : (notation : Notation) (text : List ℕ) (names next : List (List ℕ)) → IsGraphOf notation text names next →
    Distinct names
names_apart notation text names next graph = distinct_names graph.part.mentions names graph.named

module _ {notation : Notation} {text : List ℕ} {names next others other : List (List ℕ)}
    (a : IsGraphOf notation text names next) (b : IsGraphOf notation text others other) where
  same_part : a.part ≡ b.part
  same_part = says_one notation text a.part b.part a.says b.says

  same_names : names ≡ others
  same_names = a.named ∙ ap nodes_of same_part ∙ sym b.named

  edge_over : (n m : ℕ) → IsEdge next n m → IsEdge other n m
  edge_over n m edge = (b.each n m).1 (subst (λ (part : DotPart). JoinsNames others part.edges n m) same_part
      (subst (λ list. JoinsNames list a.part.edges n m) same_names ((a.each n m).0 edge)))

pub graphs_one : GraphsAreOne
graphs_one notation text names next others other a b = (same_names a b, λ n m. (edge_over a b n m, edge_over b a n m))

-- ---- one text

module _ (form : Option GraphForm) (names : List (List ℕ)) where
  edge_lines_one : {P Q : ℕ → ℕ → Type 0} {text text' : List ℕ} → ((n m : ℕ) → P n m ↔ Q n m) →
      ListsEdges form names P text → ListsEdges form names Q text' → text ≡ text'
  edge_lines_one same a b =
      let edges = sorted_one IsBefore one_way a.edges b.edges a.order b.order (λ edge. (
        (λ has. (b.each edge.0 edge.1).1 ((same edge.0 edge.1).0 ((a.each edge.0 edge.1).0 has))),
        (λ has. (a.each edge.0 edge.1).1 ((same edge.0 edge.1).1 ((b.each edge.0 edge.1).0 has))),
      )) in
      a.is ∙ ap (edges_text form names) edges ∙ sym b.is
    where
      one_way : (edge other : ℕ × ℕ) → IsBefore edge other → ¬ IsBefore other edge
      one_way edge other (inl less) (inl more) = omega (arith, less, more)
      one_way edge other (inl less) (inr more) = omega (arith, less, more.0)
      one_way edge other (inr less) (inl more) = omega (arith, less.0, more)
      one_way edge other (inr less) (inr more) = omega (arith, less.1, more.1)

  node_lines_one : {P Q : ℕ → Type 0} {text text' : List ℕ} → ((n : ℕ) → P n ↔ Q n) →
      ListsNodes form names P text → ListsNodes form names Q text' → text ≡ text'
  node_lines_one same a b =
      let nodes = sorted_one (λ (n m : ℕ). n < m) (λ n m less more. omega (arith, less, more)) a.nodes b.nodes
      a.order b.order (λ n. (
        (λ has. (b.each n).1 ((same n).0 ((a.each n).0 has))),
        (λ has. (a.each n).1 ((same n).1 ((b.each n).0 has))),
      )) in
      a.is ∙ ap (nodes_text form names) nodes ∙ sym b.is

  part_one : (next other : List (List ℕ)) → HaveSameEdges next other → Distinct names → (part : Part) →
      (text text' : List ℕ) → ListsPart form names next part text → ListsPart form names other part text' → text ≡ text'
  part_one next other same distinct Edges text text' a b = edge_lines_one (leads_same next other same) a b
  part_one next other same distinct (From name) text text' a b =
      let node = distinct b.0 a.0 name.now b.1 a.1 in
      node_lines_one (leads_same next other same a.0) a.2
      (subst (λ n. ListsNodes form names (Leads other n) text') node b.2)
  part_one next other same distinct Fewest text text' a b = edge_lines_one (reduced_same next other same) a b

part_text_one : (notation : Notation) (text : List ℕ) (part : Part) (form : Option GraphForm) (old new other : List ℕ) →
    WritesPartOf notation text part form (Some old) (Some new) → WritesPartOf notation text part form (Some old) (Some other) →
    new ≡ other
part_text_one notation text part form old new other a b =
    let (names, edges) = graphs_one notation text a.names a.next b.names b.next a.graph b.graph in
    let apart = names_apart notation text b.names b.next b.graph in
    let same = part_one form b.names a.next b.next edges apart part a.written.0 b.written.0
    (subst (λ list. ListsPart form list a.next part a.written.0) names a.written.2) b.written.2 in
    a.written.1 ∙ ap (λ more. old ++ more) same ∙ sym b.written.1

pub outputs_one : OutputsAreOne
outputs_one said text part form old new other (notation, is, a) (notation', is', b) =
    part_text_one notation text part form old new other a
    (subst (λ n. WritesPartOf n text part form (Some old) (Some other))
    (sym (notations_one said text notation notation' is is')) b)
