-- The states that a parser by a table may enter.
use Rattle.std.specs.Prelude.{◌≡◌, ◌↔◌, ℕ, ◌<◌, Bool, true, List, length, slice_index_or, All, Contains, []}
use Rattle.vob_block.specs.Packing.{item}
use Rattle.vob_lr.specs.Conflicts.{HasActionAt}
use Rattle.vob_lr.specs.Lookaheads.{HasMove}
use Rattle.vob_lr.specs.Parses.{Config, IsReached}
use Rattle.vob_lr.specs.Stops.{IsSound}
use Rattle.vob_lr.specs.Tables.{TableView}
use Rattle.vob_lr.specs.declared.grammar.Symbol.{Symbol}
use Rattle.vob_lr.specs.declared.grammar.Symbol.TheVariants.{Nonterminal, Terminal}
use Rattle.vob_lr.specs.declared.state.Move.{Move}
use Rattle.vob_lr.specs.declared.table.Action.TheVariants.{Shift}
use Rattle.vob_lr.specs.declared.table.Cell.{Cell}

-- a move is left: by a terminal if the cell shifts, and by a nonterminal always
abbrev pub IsLeft : List (List Cell) → ℕ → Symbol → ℕ → Type 0
IsLeft cells q (Terminal t) p = HasActionAt cells q t (Shift p)
IsLeft cells q (Nonterminal a) p = Unit {0}

-- a move that is left leads from state q to state p
abbrev pub GoesTo : TableView → ℕ → ℕ → Type 0
GoesTo table q p = (x : Symbol) × HasMove table.machine.moves q x p × IsLeft table.cells q x p

-- such moves lead from state 0 to a state
pub data IsEntered (table : TableView) : ℕ → Type 0 where
  start : IsEntered table 0
  goes : {q p : ℕ} → IsEntered table q → GoesTo table q p → IsEntered table p

-- a bit for each state: true exactly for these
pub record AreEntered (table : TableView) (set : List Bool) : Type 0 where
  pub len : length set ≡ length table.machine.sets
  pub each : (q : ℕ) → (item set q ≡ true) ↔ IsEntered table q

-- a parser enters no other state
abbrev pub OthersAreNotEntered : Type 0
OthersAreNotEntered = (table : TableView) (tokens : List ℕ) (c : Config) → IsSound table →
    IsReached table tokens c → All (IsEntered table) c.states

-- the states to which a state goes
abbrev pub AreTargets : TableView → ℕ → List ℕ → Type 0
AreTargets table q list = (p : ℕ) → Contains list p ↔ GoesTo table q p

-- those by the first moves of a row
abbrev pub AreTargetsOf : TableView → ℕ → List Move → List ℕ → Type 0
AreTargetsOf table q moves list = (p : ℕ) → Contains list p
    ↔ ((x : Symbol) × Contains moves (record { symbol = x; state = p }) × IsLeft table.cells q x p)

-- those of the first n states
pub record AreTargetsBelow (table : TableView) (n : ℕ) (lists : List (List ℕ)) : Type 0 where
  pub count : length lists ≡ n
  pub each : (q : ℕ) → q < n → AreTargets table q (slice_index_or lists q [])
