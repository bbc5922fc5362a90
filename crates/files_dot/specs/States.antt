-- What a reader holds, as a state. No public clause cites this page.
use Rattle.std.specs.Prelude.{List, [], ◌∷◌, ◌++◌, None, Some}
use Rattle.files_dot.specs.declared.reader.End.{End as HeldEnd}
use Rattle.files_dot.specs.declared.reader.Level.{Level as HeldLevel}
use Rattle.files_dot.specs.declared.reader.Next.{Next as Following}
use Rattle.files_dot.specs.declared.reader.Next.TheVariants.{AfterArrow, AfterColon, AfterEnd, AfterSubgraph, At}
use Rattle.files_dot.specs.declared.reader.Reader.{Reader}
use Rattle.files_dot.specs.Held.{edges_of, names_of}
use Rattle.files_dot.specs.Reading.{End, Level, Next, State, after_arrow, after_colon, after_end, after_subgraph, at}

abbrev pub end_of : HeldEnd → End
end_of held = record { start = held.start; may_be_name = held.may_be_name; colons = held.colons }

abbrev pub level_of : HeldLevel → Level
level_of held = record {
  start = held.start;
  tails = elim held.tails [ None ↦ None | Some names ↦ Some (names_of names.items) ];
}

-- the innermost level first
abbrev pub levels_of : List HeldLevel → List Level
levels_of [] = []
levels_of (held ∷ others) = levels_of others ++ level_of held ∷ []

-- what comes next
abbrev pub next_of : Following → Next
next_of (At stage) = at stage
next_of (AfterEnd end) = after_end (end_of end)
next_of (AfterColon end) = after_colon (end_of end)
next_of (AfterArrow names) = after_arrow (names_of names.items)
next_of (AfterSubgraph None is_named) = after_subgraph None is_named
next_of (AfterSubgraph (Some names) is_named) = after_subgraph (Some (names_of names.items)) is_named

-- the state of a reader
abbrev pub state_of : Following → Reader → State
state_of next reader = record {
  next = next_of next;
  mentions = names_of reader.mentions.items;
  edges = edges_of reader.edges.items;
  levels = levels_of reader.levels.items;
}
