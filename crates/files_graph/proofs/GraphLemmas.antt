-- Edges by numbers are those by names.
use Rattle.std.specs.Prelude.{slice_index_or, Contains, ◌↔◌, Option, map}
use Rattle.std.proofs.Common.{◌≡◌, inl, inr, ℕ, ◌<◌, List, [], length, arith, refl, subst}
use Rattle.files_dot.specs.Graphs.{AreNumbers, IsDotGraph, JoinsNames, Part as DotPart}
use Rattle.files_text.specs.Names.{names_in}
use Rattle.files_text.proofs.ListLemmas.{nothing}
use Rattle.files_dot.proofs.PairLemmas.{inside, pairs_inside, pairs_join}
use Rattle.files_dot.specs.Tokens.{AreDotTokens, Token as DotToken}
use Rattle.files_dot.specs.declared.place.Place.{Place}
use Rattle.files_dot.specs.declared.notation.Notation.{Notation}
use Rattle.files_dot.specs.declared.notation.Notation.TheVariants.{Dot, Lines}
use Rattle.files_graph.specs.Edges.{HasEdges}
use Rattle.files_graph.specs.Graphs.{HasPairs, IsGraphOf, IsUnread, Says}
use Rattle.files_graph.specs.Closures.{FailsOf, FailsOn}
use Rattle.files_graph.specs.declared.closure.Part.{Part}
use Rattle.files_graph.specs.declared.fault.GraphFault.{GraphFault}
use Rattle.files_graph.specs.declared.fault.GraphFault.TheVariants.{Text, Name}
use Rattle.std.specs.Io.KnownBytes.{Keeps}
use Rattle.files_text.specs.declared.fault.Fault.{Fault}
use Rattle.files_text.specs.declared.fault.Fault.TheVariants.{Memory, Input, Output, Line}
use Rattle.vob_flow.specs.Closure.{IsEdge}
use Rattle.std.proofs.lemmas.Bool.{cases_lt}
use Rattle.std.proofs.lemmas.List.{get_or_past}

module _ (words names : List (List ℕ)) (edges : List (List ℕ × List ℕ)) (pairs : List (ℕ × ℕ))
    (named : names ≡ names_in words) (numbers : AreNumbers names edges pairs) where
  pub graph_edges : (next : List (List ℕ)) → ((n m : ℕ) → n < length names →
      Contains (slice_index_or next n []) m ↔ Contains pairs (n, m)) → length next ≡ length names →
      (n m : ℕ) → IsEdge next n m ↔ JoinsNames names edges n m
  graph_edges next each nodes n m = (
    (λ edge. elim (cases_lt n (length names)) [
      | inl less ↦ (pairs_join words names edges pairs named numbers n m).0 ((each n m less).0 edge)
      | inr past ↦ absurd (nothing m (subst (λ (xs : List ℕ). Contains xs m)
          (get_or_past next n [] (omega (arith, past, nodes))) edge))
    ]),
    (λ joins. (each n m (inside names n joins.0 joins.3)).1 ((pairs_join words names edges pairs named numbers n m).1 joins)),
  )

-- lines have their edges in their notation, and a text in DOT those of its graph
pub lines_pairs : {text : List ℕ} {names : List (List ℕ)} {pairs : List (ℕ × ℕ)} → HasEdges text names pairs →
    HasPairs Lines text names pairs
lines_pairs has = record {
  part = record { mentions = map (λ word. word.text) has.words; edges = has.edges };
  says = record { words = has.words; are_words = has.are_words; are_edges = has.are_edges; mentioned = refl };
  named = has.named;
  numbers = has.numbers;
}

pub dot_pairs : {text : List ℕ} {tokens : List DotToken} {end : Place} {names : List (List ℕ)} {pairs : List (ℕ × ℕ)} →
    AreDotTokens text tokens end → IsDotGraph tokens names pairs → HasPairs Dot text names pairs
dot_pairs {tokens = tokens} {end = end} are graph = record {
  part = graph.part;
  says = record { tokens = tokens; end = end; are_tokens = are; is_graph = graph.is_graph };
  named = graph.named;
  numbers = graph.numbers;
}

-- the nodes that pairs join
module _ {notation : Notation} {text : List ℕ} {names : List (List ℕ)} {pairs : List (ℕ × ℕ)}
    (has : HasPairs notation text names pairs) where
  pub has_inside : (n m : ℕ) → Contains pairs (n, m) → (n < length names) × (m < length names)
  has_inside = pairs_inside has.part.mentions names has.part.edges pairs has.named has.numbers

  pub has_graph : (next : List (List ℕ)) → ((n m : ℕ) → n < length names →
      Contains (slice_index_or next n []) m ↔ Contains pairs (n, m)) → length next ≡ length names →
      IsGraphOf notation text names next
  has_graph next each nodes = record {
    part = has.part;
    says = has.says;
    named = has.named;
    nodes = nodes;
    each = graph_edges has.part.mentions names has.part.edges pairs has.named has.numbers next each nodes;
  }

-- a text that says something of a graph may still meet too little memory
short_of_memory : (notation : Notation) (text : List ℕ) (part : DotPart) → Says notation text part →
    IsUnread notation text Memory
short_of_memory Lines text part says = (says.words, says.are_words, inl refl)
short_of_memory Dot text part says = inl (inl refl)

-- a text that wasn't read, so that nothing was written
pub unread_fails : (notation : Notation) (text : List ℕ) (part : Part) (old new : Option (List ℕ)) (fault : Fault) →
    IsUnread notation text fault → Keeps old new → FailsOf notation text part (Text fault) old new
unread_fails notation text part old new Memory unread keeps = (unread, keeps)
unread_fails notation text part old new (Output error) unread keeps = tt
unread_fails notation text part old new (Input error) unread keeps = (unread, keeps)
unread_fails notation text part old new (Line l c e) unread keeps = (unread, keeps)

-- a fault of a graph that was read is one of its text
pub fails_of : (notation : Notation) (text : List ℕ) (names next : List (List ℕ)) → IsGraphOf notation text names next →
    (part : Part) (old new : Option (List ℕ)) (fault : GraphFault) → FailsOn names part fault old new →
    FailsOf notation text part fault old new
fails_of notation text names next graph part old new (Text Memory) fails =
    (short_of_memory notation text graph.part graph.says, fails)
fails_of notation text names next graph part old new (Text (Output error)) fails = tt
fails_of notation text names next graph part old new (Text (Input error)) fails = absurd fails
fails_of notation text names next graph part old new (Text (Line l c e)) fails = absurd fails
fails_of notation text names next graph part old new (Name name) fails = (
  record {
    names = names;
    next = next;
    graph = graph;
    absent = fails.0;
    asked = fails.1;
  },
  fails.2,
)
