-- The graph of a text, which stands there as lines or in DOT.
use Rattle.std.specs.Prelude.{◌≡◌, ◌↔◌, ℕ, List, length, map}
use Rattle.vob_flow.specs.Closure.{IsEdge}
use Rattle.files_dot.specs.Graphs.{AreNumbers, JoinsNames, Part, nodes_of}
use Rattle.files_dot.specs.Texts.{IsUnreadDot, SaysDot}
use Rattle.files_dot.specs.declared.notation.Notation.{Notation}
use Rattle.files_dot.specs.declared.notation.Notation.TheVariants.{Dot, Lines}
use Rattle.files_text.specs.Words.{Token}
use Rattle.files_text.specs.declared.fault.Fault.{Fault}
use Rattle.files_graph.specs.Edges.{AreEdges, AreWordsOf, IsUnread as AreUnread}

-- what lines say of a graph: all their names, as they come, and the edges that they are
pub record SayLines (text : List ℕ) (part : Part) : Type 0 where
  pub words : List Token
  pub are_words : AreWordsOf text words
  pub are_edges : AreEdges words part.edges
  pub mentioned : part.mentions ≡ map (λ word. word.text) words

-- what a text in a notation says of a graph
abbrev pub Says : Notation → List ℕ → Part → Type 0
Says Lines text part = SayLines text part
Says Dot text part = SaysDot text part

-- the edges of a text by the numbers of their names
pub record HasPairs (notation : Notation) (text : List ℕ) (names : List (List ℕ)) (pairs : List (ℕ × ℕ))
    : Type 0 where
  pub part : Part
  pub says : Says notation text part
  pub named : names ≡ nodes_of part
  pub numbers : AreNumbers names part.edges pairs

-- the nodes are the names in a text, in the order in which they first come, and its edges join them
pub record IsGraphOf (notation : Notation) (text : List ℕ) (names next : List (List ℕ)) : Type 0 where
  pub part : Part
  pub says : Says notation text part
  pub named : names ≡ nodes_of part
  pub nodes : length next ≡ length names
  pub each : (n m : ℕ) → IsEdge next n m ↔ JoinsNames names part.edges n m

-- why no graph was read from a text in a notation
abbrev pub IsUnread : Notation → List ℕ → Fault → Type 0
IsUnread Lines text fault = AreUnread text fault
IsUnread Dot text fault = IsUnreadDot text fault
