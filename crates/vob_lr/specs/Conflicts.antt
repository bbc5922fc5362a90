-- Where a table has more than one action, and where precedence left an action out.
use Rattle.std.specs.Prelude.{◌≡◌, ◌↔◌, ◌⊎◌, ℕ, ◌+◌, ◌<◌, List, [], length, slice_get, slice_index_or, Contains, None, Option, Some}
use Rattle.vob_lr.specs.Lookaheads.{HasMove, Machine, Reduces}
use Rattle.vob_lr.specs.Tables.{TableView}
use Rattle.vob_lr.specs.Those.{AreInOrder, AreThose}
use Rattle.vob_lr.specs.declared.conflicts.Question.{Question}
use Rattle.vob_lr.specs.declared.conflicts.Question.TheVariants.{Decided, Undecided}
use Rattle.vob_lr.specs.declared.grammar.Symbol.TheVariants.{Terminal}
use Rattle.vob_lr.specs.declared.table.Action.{Action}
use Rattle.vob_lr.specs.declared.table.Action.TheVariants.{Accept, Reduce, Shift}
use Rattle.vob_lr.specs.declared.table.Cell.{Cell}
use Rattle.vob_lr.specs.declared.table.Conflict.{Conflict}

-- how many actions a shift and rules are
abbrev pub action_count : Option ℕ → List ℕ → ℕ
action_count None rules = length rules
action_count (Some p) rules = length rules + 1

-- a cell with more than one action
abbrev pub IsConflict : Cell → Type 0
IsConflict cell = 1 < action_count cell.shift cell.reduces.items

-- one of the cells is that of a state and a terminal, and has more than one action
abbrev pub IsConflictAt : List (List Cell) → Conflict → Type 0
IsConflictAt cells c =
    (cell : Cell) × (slice_get (slice_index_or cells c.state []) c.terminal ≡ Some cell) × IsConflict cell

-- the lower state comes first, and of a state the lower terminal
abbrev pub ComesBefore : Conflict → Conflict → Type 0
ComesBefore one other =
    (one.state < other.state) ⊎ ((one.state ≡ other.state) × (one.terminal < other.terminal))

-- all conflicts, in that order
abbrev pub AreConflicts : List (List Cell) → List Conflict → Type 0
AreConflicts cells found = AreInOrder ComesBefore (IsConflictAt cells) found

-- what a parser may do in state q if terminal t is ahead
abbrev pub MayTake : Machine → ℕ → ℕ → Action → Type 0
MayTake m q t (Shift p) = HasMove m.moves q (Terminal t) p
MayTake m q t (Reduce r) = Reduces m q t r
MayTake m q t Accept = ⊥

-- what a cell has
abbrev pub HasAction : Cell → Action → Type 0
HasAction cell (Shift p) = cell.shift ≡ Some p
HasAction cell (Reduce r) = Contains cell.reduces.items r
HasAction cell Accept = ⊥

-- what the cell of state q and terminal t has
abbrev pub HasActionAt : List (List Cell) → ℕ → ℕ → Action → Type 0
HasActionAt cells q t action =
    (cell : Cell) × (slice_get (slice_index_or cells q []) t ≡ Some cell) × HasAction cell action

-- an action is left out there: a parser may take it, and the cell hasn't it
abbrev pub IsLeftOut : TableView → ℕ → ℕ → Action → Type 0
IsLeftOut table q t action =
    MayTake table.machine q t action × ¬ HasActionAt table.cells q t action

-- a cell of all actions that are left out there
pub record AreLeftOut (table : TableView) (q t : ℕ) (cell : Cell) : Type 0 where
  pub shifts : (p : ℕ) → (cell.shift ≡ Some p) ↔ IsLeftOut table q t (Shift p)
  pub reduces : AreThose (λ r. IsLeftOut table q t (Reduce r)) cell.reduces.items

-- precedence decided a cell: an action is left out of it
abbrev pub IsDecidedAt : TableView → Conflict → Type 0
IsDecidedAt table c = (action : Action) × IsLeftOut table c.state c.terminal action

-- all that it decided, in that order
abbrev pub AreDecided : TableView → List Conflict → Type 0
AreDecided table found = AreInOrder ComesBefore (IsDecidedAt table) found

-- either of both
abbrev pub IsAt : TableView → Question → Conflict → Type 0
IsAt table Undecided c = IsConflictAt table.cells c
IsAt table Decided c = IsDecidedAt table c

-- those before a state and a terminal
abbrev pub ArePlacesBefore : TableView → Question → Conflict → List Conflict → Type 0
ArePlacesBefore table question end found =
    AreInOrder ComesBefore (λ c. ComesBefore c end × IsAt table question c) found
