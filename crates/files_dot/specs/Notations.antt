-- The notation of a text with a graph.
use Rattle.std.specs.Prelude.{◌≡◌, ℕ, Bool, true, false, List, Option, None, Some}
use Rattle.files_dot.specs.Ids.{IsKeyword, bare_in}
use Rattle.files_dot.specs.Places.{first_place}
use Rattle.files_dot.specs.Tokens.{AreBlanks}
use Rattle.files_dot.specs.declared.notation.Notation.{Notation}
use Rattle.files_dot.specs.declared.notation.Notation.TheVariants.{Dot, Lines}
use Rattle.files_dot.specs.declared.place.Place.{Place}
use Rattle.files_dot.specs.declared.token.Mark.{Mark}
use Rattle.files_dot.specs.declared.token.Mark.TheVariants.{Digraph, Graph, Strict}

-- whether a graph can begin with a keyword, if it may be undirected
abbrev pub is_graph_word : Mark → Bool
is_graph_word Strict = true
is_graph_word Graph = true
is_graph_word Digraph = true
is_graph_word mark = false

-- behind white space and comments a text begins with `strict`, `graph` or `digraph`
pub record BeginsGraph (text : List ℕ) : Type 0 where
  pub place : Place
  pub rest : List ℕ
  pub are_blanks : AreBlanks first_place text place rest
  pub mark : Mark
  pub is_keyword : IsKeyword (bare_in rest) mark
  pub begins : is_graph_word mark ≡ true

-- the notation of a text: the one that is said, or else DOT if it begins as a graph in DOT does
abbrev pub IsIn : (said : Option Notation) → List ℕ → Notation → Type 0
IsIn (Some notation) text other = other ≡ notation
IsIn None text Dot = BeginsGraph text
IsIn None text Lines = ¬ BeginsGraph text
