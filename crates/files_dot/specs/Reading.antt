-- Graphs as they are read, a word after another. No public clause cites this page.
use Rattle.std.specs.Prelude.{◌≡◌, ◌⊎◌, ℕ, ◌-◌, Bool, true, false, List, [], ◌∷◌, ◌++◌, Option, None, Some, drop, length, take, if◌then◌else◌, nat_lt}
use Rattle.std.specs.Option.{option_and_then}
use Rattle.files_text.specs.Faults.{IsLine}
use Rattle.files_text.specs.Names.{names_in}
use Rattle.files_text.specs.declared.fault.Fault.{Fault}
use Rattle.files_text.specs.declared.fault.Fault.TheVariants.{Memory}
use Rattle.files_dot.specs.Graphs.{between}
use Rattle.files_dot.specs.Tokens.{Token, Word, id, sign}
use Rattle.files_dot.specs.declared.stage.Stage.{Stage}
use Rattle.files_dot.specs.declared.stage.Stage.TheVariants.{AfterDigraph, AfterEqual, AfterKey, AfterKeyEqual, AfterKeyword, AfterList, AfterName, AfterStrict, AfterValue, Begin, Done, Ended, InList, Statement}
use Rattle.files_dot.specs.declared.token.Mark.{Mark}
use Rattle.files_dot.specs.declared.token.Mark.TheVariants.{Arrow, CloseBrace, CloseBracket, Colon, Comma, Digraph, Edge, Equal, Graph, Node, OpenBrace, OpenBracket, Semicolon, Strict, Subgraph}

-- the stage after an ID
abbrev pub follow_id : Stage → Option Stage
follow_id AfterDigraph = Some AfterName
follow_id AfterEqual = Some Ended
follow_id InList = Some AfterKey
follow_id AfterValue = Some AfterKey
follow_id AfterKeyEqual = Some AfterValue
follow_id stage = None

-- the stage after a mark
abbrev pub follow_mark : Stage → Mark → Option Stage
follow_mark Begin Strict = Some AfterStrict
follow_mark Begin Digraph = Some AfterDigraph
follow_mark AfterStrict Digraph = Some AfterDigraph
follow_mark AfterDigraph OpenBrace = Some Statement
follow_mark AfterName OpenBrace = Some Statement
follow_mark AfterKeyword OpenBracket = Some InList
follow_mark InList CloseBracket = Some AfterList
follow_mark AfterValue CloseBracket = Some AfterList
follow_mark AfterValue Comma = Some InList
follow_mark AfterValue Semicolon = Some InList
follow_mark AfterKey Equal = Some AfterKeyEqual
follow_mark AfterList OpenBracket = Some InList
follow_mark AfterList Semicolon = Some Statement
follow_mark Ended Semicolon = Some Statement
follow_mark stage mark = None

abbrev pub follow : Stage → Word → Option Stage
follow stage (id name) = follow_id stage
follow stage (sign mark) = follow_mark stage mark

-- whether a statement can begin
abbrev pub is_ready : Stage → Bool
is_ready Statement = true
is_ready Ended = true
is_ready AfterList = true
is_ready stage = false

-- an end of an edge: what was mentioned since, whether it may be the name of an attribute instead,
-- and how many `:` may follow
pub record End : Type 0 where
  pub start : ℕ
  pub may_be_name : Bool
  pub colons : ℕ

-- what comes next
pub data Next : Type 0 where
  at : Stage → Next
  after_end : End → Next
  after_colon : End → Next
  after_arrow : (tails : List (List ℕ)) → Next
  after_subgraph : (tails : Option (List (List ℕ))) → (is_named : Bool) → Next

-- a subgraph that is open
pub record Level : Type 0 where
  pub start : ℕ
  pub tails : Option (List (List ℕ))

-- what was read
pub record State : Type 0 where
  pub next : Next
  pub mentions : List (List ℕ)
  pub edges : List (List ℕ × List ℕ)
  pub levels : List Level

abbrev pub start : State
start = record { next = at Begin; mentions = []; edges = []; levels = [] }

-- the nodes mentioned since
abbrev pub nodes_since : State → ℕ → List (List ℕ)
nodes_since s start = names_in (drop start s.mentions)

abbrev pub edges_to : Option (List (List ℕ)) → List (List ℕ) → List (List ℕ × List ℕ)
edges_to None heads = []
edges_to (Some tails) heads = between tails heads

abbrev pub new_end : ℕ → (may_be_name : Bool) → End
new_end start may_be_name = record { start = start; may_be_name = may_be_name; colons = 2 }

abbrev pub opened : State → Option (List (List ℕ)) → State
opened s tails = record s {
  next = at Statement;
  levels = record { start = length s.mentions; tails = tails } ∷ s.levels;
}

abbrev pub closing : State → List Level → State
closing s [] = record s { next = at Done }
closing s (level ∷ outer) = record s {
  next = after_end (record { start = level.start; may_be_name = false; colons = 0 });
  edges = s.edges ++ edges_to level.tails (nodes_since s level.start);
  levels = outer;
}

abbrev pub reached : State → (tails : List (List ℕ)) → List ℕ → State
reached s tails name = record s {
  next = after_end (new_end (length s.mentions) false);
  mentions = s.mentions ++ name ∷ [];
  edges = s.edges ++ between tails (name ∷ []);
}

-- the state after the first word of a statement, or after `}`
abbrev pub starts : State → Word → Option State
starts s (id name) = Some (record s {
  next = after_end (new_end (length s.mentions) true);
  mentions = s.mentions ++ name ∷ [];
})
starts s (sign Graph) = Some (record s { next = at AfterKeyword })
starts s (sign Node) = Some (record s { next = at AfterKeyword })
starts s (sign Edge) = Some (record s { next = at AfterKeyword })
starts s (sign Subgraph) = Some (record s { next = after_subgraph None false })
starts s (sign OpenBrace) = Some (opened s None)
starts s (sign CloseBrace) = Some (closing s s.levels)
starts s word = None

-- the state at a stage, or another
abbrev pub going : State → Option Stage → Option State → Option State
going s (Some stage) other = Some (record s { next = at stage })
going s None other = other

-- the state after a word at a stage, or none if it can't stand there
abbrev pub step_stage : State → Stage → Word → Option State
step_stage s stage word = going s (follow stage word) (if is_ready stage then starts s word else None)

-- the state after a word behind an end
abbrev pub step_end : State → End → Word → Option State
step_end s end (sign Arrow) = Some (record s { next = after_arrow (nodes_since s end.start) })
step_end s end (sign Equal) = if end.may_be_name
    then Some (record s { next = at AfterEqual; mentions = take end.start s.mentions }) else None
step_end s end (sign Colon) = if nat_lt 0 end.colons then Some (record s {
  next = after_colon (record { start = end.start; may_be_name = false; colons = end.colons - 1 });
}) else None
step_end s end (sign OpenBracket) = Some (record s { next = at InList })
step_end s end word = step_stage s Ended word

-- the state after a word
abbrev pub step_at : Next → State → Word → Option State
step_at (at stage) s word = step_stage s stage word
step_at (after_end end) s word = step_end s end word
step_at (after_colon end) s (id name) = Some (record s {
  next = after_end (record { start = end.start; may_be_name = false; colons = end.colons });
})
step_at (after_colon end) s (sign mark) = None
step_at (after_arrow tails) s (id name) = Some (reached s tails name)
step_at (after_arrow tails) s (sign Subgraph) = Some (record s { next = after_subgraph (Some tails) false })
step_at (after_arrow tails) s (sign OpenBrace) = Some (opened s (Some tails))
step_at (after_arrow tails) s (sign mark) = None
step_at (after_subgraph tails false) s (id name) = Some (record s { next = after_subgraph tails true })
step_at (after_subgraph tails true) s (id name) = None
step_at (after_subgraph tails named) s (sign OpenBrace) = Some (opened s tails)
step_at (after_subgraph tails named) s (sign mark) = None

abbrev pub step : State → Word → Option State
step s word = step_at s.next s word

-- the state after some words
abbrev pub run : State → List Word → Option State
run s [] = Some s
run s (word ∷ words) = option_and_then (λ t. run t words) (step s word)

-- whether a graph was read
abbrev pub is_done : Next → Bool
is_done (at Done) = true
is_done next = false

-- why a token isn't taken: it can't stand there
abbrev pub IsRefused : State → Token → Fault → Type 0
IsRefused s token fault = (fault ≡ Memory) ⊎ ((step s token.word ≡ None)
    × ((expected : List ℕ) × IsLine fault token.place.line token.place.column expected))
