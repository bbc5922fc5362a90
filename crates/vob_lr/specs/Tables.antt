-- The table of a parser: what it may do in each state when a terminal is ahead.
use Rattle.std.specs.Prelude.{◌≡◌, ◌↔◌, ℕ, ◌<◌, List, [], ◌∷◌, length, slice_get, slice_index_or, All, None, Option, Some}
use Rattle.vob_lr.specs.Lookaheads.{HasMove, Machine, Reduces}
use Rattle.vob_lr.specs.Precedences.{resolved, stays}
use Rattle.vob_lr.specs.Those.{AreThose}
use Rattle.vob_lr.specs.declared.grammar.Symbol.TheVariants.{Terminal}
use Rattle.vob_lr.specs.declared.precedence.Stays.{Stays}
use Rattle.vob_lr.specs.declared.precedence.Precedence.{Precedence}
use Rattle.vob_lr.specs.declared.table.Action.{Action}
use Rattle.vob_lr.specs.declared.table.Action.TheVariants.{Reduce, Shift}
use Rattle.vob_lr.specs.declared.table.Cell.{Cell}

-- all that a parser may do in state q if terminal t is ahead: shift the terminal and enter a state,
-- or reduce by some rules, the lower numbers first
pub record AreActions (m : Machine) (q t : ℕ) (shift : Option ℕ) (rules : List ℕ) : Type 0 where
  pub shifts : (p : ℕ) → (shift ≡ Some p) ↔ HasMove m.moves q (Terminal t) p
  pub reduces : AreThose (Reduces m q t) rules

-- what stays of a shift of terminal t and rule r, by the precedences of terminals and of rules:
-- those behind the ends of the lists have none
abbrev pub stays_at : List (Option Precedence) → List (Option Precedence) → ℕ → ℕ → Stays
stays_at terminals rules t r = stays (slice_index_or rules r None) (slice_index_or terminals t None)

-- what precedence leaves of all that a parser may do
pub record IsCell (m : Machine) (terminals rules : List (Option Precedence)) (q t : ℕ) (cell : Cell)
    : Type 0 where
  pub shift : Option ℕ
  pub reduces : List ℕ
  pub all : AreActions m q t shift reduces
  pub left : (cell.shift, cell.reduces.items)
      ≡ resolved (stays_at terminals rules t) shift reduces

-- the cells of state q for the terminals below n
pub record AreCells (m : Machine) (terminals rules : List (Option Precedence)) (q n : ℕ)
    (row : List Cell) : Type 0 where
  pub long : length row ≡ n
  pub each : (t : ℕ) (d : Cell) → t < length row →
      IsCell m terminals rules q t (slice_index_or row t d)

-- a row for each of the first n states, with a cell for each terminal
pub record AreRowsOfCells (m : Machine) (terminals rules : List (Option Precedence)) (n : ℕ)
    (cells : List (List Cell)) : Type 0 where
  pub count : length cells ≡ n
  pub each : (q : ℕ) → q < length cells →
      AreCells m terminals rules q m.grammar.terminals (slice_index_or cells q [])

-- a grammar's states and the cells
pub record TableView : Type 0 where
  pub machine : Machine
  pub cells : List (List Cell)

-- what a parser does of what it may: it shifts, or else reduces by the lowest rule
abbrev pub chosen : Option ℕ → List ℕ → Option Action
chosen (Some p) rules = Some (Shift p)
chosen None [] = None
chosen None (r ∷ rules) = Some (Reduce r)

-- that of a cell, or of none
abbrev pub action_of : Option Cell → Option Action
action_of None = None
action_of (Some cell) = chosen cell.shift cell.reduces.items

-- that of state q if terminal t is ahead
abbrev pub chosen_at : List (List Cell) → ℕ → ℕ → Option Action
chosen_at cells q t = action_of (slice_get (slice_index_or cells q []) t)

-- each action is one that a parser may do, and each state has a cell for each terminal
pub record AreSound (m : Machine) (cells : List (List Cell)) : Type 0 where
  pub count : length cells ≡ length m.sets
  pub long : All (λ row. length row ≡ m.grammar.terminals) cells
  pub shifts : (q t p : ℕ) → chosen_at cells q t ≡ Some (Shift p) →
      HasMove m.moves q (Terminal t) p
  pub reduces : (q t r : ℕ) → chosen_at cells q t ≡ Some (Reduce r) → Reduces m q t r
