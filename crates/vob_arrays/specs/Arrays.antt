-- Which arrays are those of a table.
use Rattle.std.specs.Prelude.{◌≡◌, ◌⊎◌, ◌↔◌, ℕ, ◌+◌, ◌*◌, ◌<◌, ◌≤◌, List, [], flat_map, length, map, slice_get, slice_index, slice_index_or, Contains, Some}
use Rattle.vob_lr.specs.Accepting.{Accepts}
use Rattle.vob_lr.specs.Stops.{IsSound}
use Rattle.vob_lr.specs.Tables.{TableView, chosen_at}
use Rattle.vob_lr.specs.declared.grammar.Rule.{Rule}
use Rattle.vob_lr.specs.declared.grammar.Symbol.{Symbol}
use Rattle.vob_lr.specs.declared.grammar.Symbol.TheVariants.{Nonterminal, Terminal}
use Rattle.vob_lr.specs.declared.state.Move.{Move}
use Rattle.vob_lr.specs.declared.table.Action.{Action}
use Rattle.vob_lr.specs.declared.table.Action.TheVariants.{Accept, Reduce, Shift}
use Rattle.vob_arrays.specs.Views.{TableArrays}
use Rattle.vob_arrays.specs.declared.arrays.OwnedArrays.{OwnedArrays}

-- the arrays of those that own them
abbrev pub owned_view : OwnedArrays → TableArrays
owned_view arrays = record {
  terminals = arrays.terminals;
  offsets = arrays.offsets.items;
  symbols = arrays.symbols.items;
  actions = arrays.actions.items;
  left = arrays.left.items;
  lengths = arrays.lengths.items;
}

-- action a is done at symbol x in state q: one of the state's entries says so
pub record HasEntry (arrays : TableArrays) (q x a : ℕ) : Type 0 where
  pub place : ℕ
  pub from : slice_index arrays.offsets q ≤ place
  pub below : place < slice_index arrays.offsets (q + 1)
  pub symbol : slice_get arrays.symbols place ≡ Some x
  pub action : slice_get arrays.actions place ≡ Some a

-- the number of what a parser does in state q with terminal t ahead
abbrev pub IsCode : TableView → ℕ → ℕ → Action → ℕ → Type 0
IsCode table q t (Shift p) a =
    (Accepts table q t × (a ≡ 4 * p + 2)) ⊎ ((¬ Accepts table q t) × (a ≡ 4 * p))
IsCode table q t (Reduce r) a = a ≡ 4 * r + 1
IsCode table q t Accept a = ⊥

-- a is the number of what the table says there
pub record IsActionAt (table : TableView) (q t a : ℕ) : Type 0 where
  pub action : Action
  pub is : chosen_at table.cells q t ≡ Some action
  pub code : IsCode table q t action a

-- that is so, and x is a terminal
abbrev pub IsTerminalEntry : TableView → ℕ → ℕ → ℕ → Type 0
IsTerminalEntry table q x a = (x < table.machine.grammar.terminals) × IsActionAt table q x a

-- x is the symbol of a nonterminal, by which a move leads to the state with number a
pub record IsMoveEntry (terminals : ℕ) (moves : List Move) (x a : ℕ) : Type 0 where
  pub nonterminal : ℕ
  pub state : ℕ
  pub symbol : x ≡ terminals + nonterminal
  pub move : Contains moves (record { symbol = Nonterminal nonterminal; state = state })
  pub action : a ≡ 4 * state

-- what a table says of state q at symbol x: terminals have their numbers, and nonterminals come after them
abbrev pub IsEntry : TableView → ℕ → ℕ → ℕ → Type 0
IsEntry table q x a = IsTerminalEntry table q x a
    ⊎ IsMoveEntry table.machine.grammar.terminals (slice_index_or table.machine.moves q []) x a

-- the arrays are those of a sound table: they say the same of each state and symbol, and of each rule
pub record IsTableOf (table : TableView) (arrays : TableArrays) : Type 0 where
  pub sound : IsSound table
  pub terminals : arrays.terminals ≡ table.machine.grammar.terminals
  pub states : length arrays.offsets ≡ length table.machine.sets + 1
  pub last : slice_index arrays.offsets (length table.machine.sets) ≡ length arrays.symbols
  pub long : length arrays.actions ≡ length arrays.symbols
  pub entries : (q x a : ℕ) → HasEntry arrays q x a ↔ IsEntry table q x a
  pub left : arrays.left
      ≡ map (λ rule. table.machine.grammar.terminals + rule.left) table.machine.grammar.rules.items
  pub lengths : arrays.lengths ≡ map (λ rule. length rule.right.items) table.machine.grammar.rules.items

-- the number of a symbol: terminals have their own, and nonterminals come after them
abbrev pub symbol_number : ℕ → Symbol → ℕ
symbol_number terminals (Terminal t) = t
symbol_number terminals (Nonterminal n) = terminals + n

-- the symbols on the right sides of rules, rule by rule
abbrev pub right_numbers : ℕ → List Rule → List ℕ
right_numbers terminals rules = flat_map (λ rule. map (symbol_number terminals) rule.right.items) rules

-- those of all rules of a table
abbrev pub right_symbols : TableView → List ℕ
right_symbols table = right_numbers table.machine.grammar.terminals table.machine.grammar.rules.items
