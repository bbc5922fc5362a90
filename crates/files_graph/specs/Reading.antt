-- Edges as they are read. No public clause cites this page.
use Rattle.std.specs.Prelude.{◌≡◌, ◌≢◌, ℕ, List, [], ◌∷◌, ◌++◌, Option, None, Some, map, IfSome}
use Rattle.files_dot.specs.Graphs.{AreNumbers}
use Rattle.files_text.specs.Names.{names_in}
use Rattle.files_text.specs.Words.{Token, token_of}
use Rattle.files_text.specs.declared.words.Word.{Word}
use Rattle.files_graph.specs.Edges.{AreEdges, IsName, last_line}
use Rattle.files_graph.specs.declared.edges.Reader.{Reader}

-- the word at hand, or none
abbrev pub at_hand : Option Word → List Token
at_hand None = []
at_hand (Some word) = token_of word ∷ []

-- what a reader has taken: lines of edges, and perhaps the first name of the next line
pub record HasRead (reader : Reader) (words : List Token) : Type 0 where
  pub before : List Token
  pub edges : List (List ℕ × List ℕ)
  pub are_edges : AreEdges before edges
  pub last : reader.line ≡ last_line before
  pub words_are : words ≡ before ++ at_hand reader.from
  pub fresh : IfSome reader.from (λ from. IsName (token_of from) × (reader.line ≢ Some from.line))
  pub named : reader.names ≡ names_in (map (λ word. word.text) before)
  pub numbers : AreNumbers reader.names edges reader.edges.items
