-- Directed graphs in DOT, by the productions of the language.
use Rattle.std.specs.Prelude.{◌≡◌, ◌⊎◌, ℕ, List, [], ◌∷◌, ◌++◌, Some, map, slice_get, Contains, ⊤}
use Rattle.std.specs.List.{flat_map}
use Rattle.files_text.specs.Faults.{IsLine}
use Rattle.files_text.specs.Names.{names_in}
use Rattle.files_text.specs.declared.fault.Fault.{Fault}
use Rattle.files_text.specs.declared.fault.Fault.TheVariants.{Memory}
use Rattle.files_dot.specs.Tokens.{Token, Word, id, sign}
use Rattle.files_dot.specs.declared.place.Place.{Place}
use Rattle.files_dot.specs.declared.token.Mark.TheVariants.{Arrow, CloseBrace, CloseBracket, Colon, Comma, Digraph, Edge, Equal, Graph, Node, OpenBrace, OpenBracket, Semicolon, Strict, Subgraph}

-- what words say of a graph: the nodes that they mention, as they come, and the edges between them
pub record Part : Type 0 where
  pub mentions : List (List ℕ)
  pub edges : List (List ℕ × List ℕ)

abbrev pub nothing : Part
nothing = record { mentions = []; edges = [] }

-- a part, and another behind it
abbrev pub both : Part → Part → Part
both first second = record {
  mentions = first.mentions ++ second.mentions;
  edges = first.edges ++ second.edges;
}

-- the nodes of a part, in the order in which they are first mentioned
abbrev pub nodes_of : Part → List (List ℕ)
nodes_of part = names_in part.mentions

-- the edges from each of some nodes to each of others
abbrev pub between : (tails heads : List (List ℕ)) → List (List ℕ × List ℕ)
between tails heads = flat_map (λ tail. map (λ head. (tail, head)) heads) tails

-- a_list : ID '=' ID [ ';' | ',' ] [ a_list ]
pub data AreAttributes : List Word → Type 0 where
  no_attribute : AreAttributes []
  attribute : (key value : List ℕ) {others : List Word} → AreAttributes others →
      AreAttributes (id key ∷ sign Equal ∷ id value ∷ others)
  attribute_semicolon : (key value : List ℕ) {others : List Word} → AreAttributes others →
      AreAttributes (id key ∷ sign Equal ∷ id value ∷ sign Semicolon ∷ others)
  attribute_comma : (key value : List ℕ) {others : List Word} → AreAttributes others →
      AreAttributes (id key ∷ sign Equal ∷ id value ∷ sign Comma ∷ others)

-- attr_list : '[' [ a_list ] ']' [ attr_list ], or none
pub data AreLists : List Word → Type 0 where
  no_list : AreLists []
  a_list : {attributes others : List Word} → AreAttributes attributes → AreLists others →
      AreLists (sign OpenBracket ∷ (attributes ++ sign CloseBracket ∷ others))

-- port : ':' ID [ ':' compass_pt ], or none
pub data IsPort : List Word → Type 0 where
  no_port : IsPort []
  port : (name : List ℕ) → IsPort (sign Colon ∷ id name ∷ [])
  port_point : (name point : List ℕ) → IsPort (sign Colon ∷ id name ∷ sign Colon ∷ id point ∷ [])

-- what comes before the braces of a subgraph: [ subgraph [ ID ] ]
pub data IsSubgraphHead : List Word → Type 0 where
  braces_alone : IsSubgraphHead []
  subgraph : IsSubgraphHead (sign Subgraph ∷ [])
  subgraph_name : (name : List ℕ) → IsSubgraphHead (sign Subgraph ∷ id name ∷ [])

-- what comes before the braces of a graph: [ strict ] digraph [ ID ]
pub data IsGraphHead : List Word → Type 0 where
  digraph : IsGraphHead (sign Digraph ∷ [])
  digraph_name : (name : List ℕ) → IsGraphHead (sign Digraph ∷ id name ∷ [])
  strict_digraph : IsGraphHead (sign Strict ∷ sign Digraph ∷ [])
  strict_digraph_name : (name : List ℕ) → IsGraphHead (sign Strict ∷ sign Digraph ∷ id name ∷ [])

-- what words are: statements, one statement, a node or a subgraph where edges end, and the further
-- ends of edges that lead from nodes
pub data Symbol : Type 0 where
  statements : Symbol
  statement : Symbol
  an_end : Symbol
  ends_from : List (List ℕ) → Symbol

pub data Derives : Symbol → List Word → Part → Type 0 where
  -- stmt_list : [ stmt [ ';' ] stmt_list ]
  no_statement : Derives statements [] nothing
  a_statement : {words others : List Word} {part more : Part} → Derives statement words part →
      Derives statements others more → Derives statements (words ++ others) (both part more)
  a_statement_semicolon : {words others : List Word} {part more : Part} → Derives statement words part →
      Derives statements others more → Derives statements (words ++ sign Semicolon ∷ others) (both part more)
  -- attr_stmt : (graph | node | edge) attr_list
  of_graph : {attributes others : List Word} → AreAttributes attributes → AreLists others →
      Derives statement (sign Graph ∷ sign OpenBracket ∷ (attributes ++ sign CloseBracket ∷ others)) nothing
  of_nodes : {attributes others : List Word} → AreAttributes attributes → AreLists others →
      Derives statement (sign Node ∷ sign OpenBracket ∷ (attributes ++ sign CloseBracket ∷ others)) nothing
  of_edges : {attributes others : List Word} → AreAttributes attributes → AreLists others →
      Derives statement (sign Edge ∷ sign OpenBracket ∷ (attributes ++ sign CloseBracket ∷ others)) nothing
  -- ID '=' ID
  assigns : (key value : List ℕ) → Derives statement (id key ∷ sign Equal ∷ id value ∷ []) nothing
  -- node_stmt, edge_stmt and subgraph: an end, further ends, and attributes
  connects : {words others lists : List Word} {part more : Part} → Derives an_end words part →
      Derives (ends_from (nodes_of part)) others more → AreLists lists →
      Derives statement (words ++ (others ++ lists)) (both part more)
  -- node_id : ID [ port ]
  a_node : (name : List ℕ) {after : List Word} → IsPort after →
      Derives an_end (id name ∷ after) (record { mentions = name ∷ []; edges = [] })
  -- subgraph : [ subgraph [ ID ] ] '{' stmt_list '}'
  a_subgraph : {head words : List Word} {part : Part} → IsSubgraphHead head → Derives statements words part →
      Derives an_end (head ++ sign OpenBrace ∷ (words ++ sign CloseBrace ∷ [])) part
  -- edgeRHS : edgeop (node_id | subgraph) [ edgeRHS ], or none
  no_end : {tails : List (List ℕ)} → Derives (ends_from tails) [] nothing
  leads_to : {tails : List (List ℕ)} {words others : List Word} {part more : Part} → Derives an_end words part →
      Derives (ends_from (nodes_of part)) others more →
      Derives (ends_from tails) (sign Arrow ∷ (words ++ others)) (record {
        mentions = part.mentions ++ more.mentions;
        edges = part.edges ++ (between tails (nodes_of part) ++ more.edges);
      })

-- graph : [ strict ] digraph [ ID ] '{' stmt_list '}'
pub record IsGraph (words : List Word) (part : Part) : Type 0 where
  pub head : List Word
  pub inside : List Word
  pub words_are : words ≡ head ++ sign OpenBrace ∷ (inside ++ sign CloseBrace ∷ [])
  pub is_head : IsGraphHead head
  pub are_statements : Derives statements inside part

-- the words of tokens
abbrev pub words_of : List Token → List Word
words_of tokens = map (λ token. token.word) tokens

-- the numbers of the names of edges
abbrev pub AreNumbers : (names : List (List ℕ)) → List (List ℕ × List ℕ) → List (ℕ × ℕ) → Type 0
AreNumbers names [] [] = ⊤
AreNumbers names (edge ∷ edges) (pair ∷ pairs) = (slice_get names pair.0 ≡ Some edge.0)
    × (slice_get names pair.1 ≡ Some edge.1) × AreNumbers names edges pairs
AreNumbers names edges pairs = ⊥

-- an edge from the name with one number to that with another
abbrev pub JoinsNames : (names : List (List ℕ)) → List (List ℕ × List ℕ) → ℕ → ℕ → Type 0
JoinsNames names edges n m = (from : List ℕ) × (to : List ℕ) × Contains edges (from, to)
    × (slice_get names n ≡ Some from) × (slice_get names m ≡ Some to)

-- the graph of tokens: the names of its nodes, in the order in which they are first mentioned, and
-- its edges by their numbers
pub record IsDotGraph (tokens : List Token) (names : List (List ℕ)) (pairs : List (ℕ × ℕ)) : Type 0 where
  pub part : Part
  pub is_graph : IsGraph (words_of tokens) part
  pub named : names ≡ nodes_of part
  pub numbers : AreNumbers names part.edges pairs

-- words that a graph can begin with
pub record CanBegin (words : List Word) : Type 0 where
  pub rest : List Word
  pub part : Part
  pub is_graph : IsGraph (words ++ rest) part

-- tokens go on, with the first that no graph has there, or end where no graph does
abbrev pub Stops : (before rest : List Token) → (end place : Place) → Type 0
Stops before [] end place = (place ≡ end) × ¬ ((part : Part) × IsGraph (words_of before) part)
Stops before (token ∷ rest) end place = (place ≡ token.place) × ¬ CanBegin (words_of (before ++ token ∷ []))

-- the first place where tokens are no graph: all before it can begin one
pub record IsFirstFault (tokens : List Token) (end place : Place) : Type 0 where
  pub before : List Token
  pub rest : List Token
  pub cut : tokens ≡ before ++ rest
  pub begin : CanBegin (words_of before)
  pub stops : Stops before rest end place

-- why tokens weren't read as a graph
abbrev pub IsGraphFault : List Token → (end : Place) → Fault → Type 0
IsGraphFault tokens end fault = (fault ≡ Memory) ⊎ ((place : Place) × (expected : List ℕ)
    × IsFirstFault tokens end place × IsLine fault place.line place.column expected)
