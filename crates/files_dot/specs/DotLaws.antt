-- A text in DOT has one list of tokens, these are one graph, and a text is in one notation.
use Rattle.std.specs.Prelude.{◌≡◌, ℕ, List, Option}
use Rattle.files_dot.specs.Graphs.{IsGraph, Part}
use Rattle.files_dot.specs.Notations.{IsIn}
use Rattle.files_dot.specs.Texts.{SaysDot}
use Rattle.files_dot.specs.Tokens.{AreDotTokens, Token, Word}
use Rattle.files_dot.specs.declared.notation.Notation.{Notation}
use Rattle.files_dot.specs.declared.place.Place.{Place}

-- two lists of tokens of one text are equal, and it ends at one place
abbrev pub TokensAreOne : Type 0
TokensAreOne = (text : List ℕ) (tokens others : List Token) (end other_end : Place) →
    AreDotTokens text tokens end → AreDotTokens text others other_end → (tokens ≡ others) × (end ≡ other_end)

-- words say one thing of a graph, by whatever productions
abbrev pub GraphsAreOne : Type 0
GraphsAreOne = (words : List Word) (part other : Part) → IsGraph words part → IsGraph words other → part ≡ other

-- a text says one thing of a graph
abbrev pub TextsSayOne : Type 0
TextsSayOne = (text : List ℕ) (part other : Part) → SaysDot text part → SaysDot text other → part ≡ other

-- two notations of one text are equal, if the same or none was said
abbrev pub NotationsAreOne : Type 0
NotationsAreOne = (said : Option Notation) (text : List ℕ) (notation other : Notation) →
    IsIn said text notation → IsIn said text other → notation ≡ other
