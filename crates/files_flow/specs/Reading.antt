-- Nodes as they are read. No public clause cites this page.
use Rattle.std.specs.Prelude.{◌≡◌, List, [], ◌∷◌, ◌++◌, Option, None, Some, map, IfSome}
use Rattle.files_text.specs.Words.{Token, token_of}
use Rattle.files_text.specs.declared.words.Word.{Word}
use Rattle.files_flow.specs.Nodes.{AreNodes, BeginsNode, mention_of}
use Rattle.files_flow.specs.declared.nodes.Reader.{Reader}

-- the word at hand, or none
abbrev pub at_hand : Option Word → List Token
at_hand None = []
at_hand (Some word) = token_of word ∷ []

-- what a reader has taken: lines of nodes, and perhaps the name of the next node
pub record HasRead (reader : Reader) (words : List Token) : Type 0 where
  pub before : List Token
  pub words_are : words ≡ before ++ at_hand reader.name
  pub are_nodes : AreNodes reader.line reader.part before reader.names (map mention_of reader.uses.items)
  pub fresh : IfSome reader.name (λ name. BeginsNode reader.line reader.names (token_of name))
