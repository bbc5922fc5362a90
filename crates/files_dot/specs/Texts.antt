-- What a text in DOT says of a graph, and why it says nothing.
use Rattle.std.specs.Prelude.{◌⊎◌, ℕ, List}
use Rattle.files_text.specs.declared.fault.Fault.{Fault}
use Rattle.files_dot.specs.Graphs.{IsGraph, IsGraphFault, Part, words_of}
use Rattle.files_dot.specs.Tokens.{AreDotTokens, IsTokenFault, Token}
use Rattle.files_dot.specs.declared.place.Place.{Place}

-- the nodes that a text mentions, as they come, and the edges between them
pub record SaysDot (text : List ℕ) (part : Part) : Type 0 where
  pub tokens : List Token
  pub end : Place
  pub are_tokens : AreDotTokens text tokens end
  pub is_graph : IsGraph (words_of tokens) part

-- no graph was read: there is a first place where no token is, or else where no graph goes on
abbrev pub IsUnreadDot : List ℕ → Fault → Type 0
IsUnreadDot text fault = IsTokenFault text fault
    ⊎ ((tokens : List Token) × (end : Place) × AreDotTokens text tokens end × IsGraphFault tokens end fault)
