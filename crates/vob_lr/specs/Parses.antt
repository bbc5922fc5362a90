-- A parser by a table: what it does step by step.
use Rattle.std.specs.Prelude.{◌≡◌, ℕ, ◌+◌, ◌<◌, ◌≤◌, List, [], ◌∷◌, length, drop, slice_get, slice_index_or, Option, Some}
use Rattle.vob_lr.specs.ItemSets.{HasItem}
use Rattle.vob_lr.specs.Items.{Completes}
use Rattle.vob_lr.specs.Lookaheads.{HasMove, Machine}
use Rattle.vob_lr.specs.Tables.{TableView, chosen_at}
use Rattle.vob_lr.specs.declared.grammar.Rule.{Rule}
use Rattle.vob_lr.specs.declared.grammar.Symbol.TheVariants.{Nonterminal}
use Rattle.vob_lr.specs.declared.table.Action.{Action}
use Rattle.vob_lr.specs.declared.table.Action.TheVariants.{Accept, Reduce, Shift}

-- a parser under way: the states on its stack, how many tokens it has read, and the rules by which
-- it reduced. The newest state and the newest rule are first
pub record Config : Type 0 where
  pub states : List ℕ
  pub read : ℕ
  pub reduced : List ℕ

-- a parser in state 0 that has read nothing
abbrev pub beginning : Config
beginning = record { states = 0 ∷ []; read = 0; reduced = [] }

-- the newest state
abbrev pub top : List ℕ → ℕ
top states = slice_index_or states 0 0

-- what the table says there, with the next token or else the end ahead
abbrev pub action_in : TableView → List ℕ → Config → Option Action
action_in table tokens c = chosen_at table.cells (top c.states) (slice_index_or tokens c.read 0)

-- a token is read, and a state entered
abbrev pub shifted : ℕ → Config → Config
shifted p c = record { states = p ∷ c.states; read = c.read + 1; reduced = c.reduced }

-- so many states are left by rule r, and another is entered
abbrev pub replaced : ℕ → ℕ → ℕ → Config → Config
replaced r count p c =
    record { states = p ∷ drop count c.states; read = c.read; reduced = r ∷ c.reduced }

-- the states of a rule's right side are left, and the one entered that follows by its left side
pub record IsReplaced (m : Machine) (r : ℕ) (c d : Config) : Type 0 where
  pub rule : Rule
  pub is : slice_get m.grammar.rules.items r ≡ Some rule
  pub state : ℕ
  pub move : HasMove m.moves (top (drop (length rule.right.items) c.states))
      (Nonterminal rule.left) state
  pub after : d ≡ replaced r (length rule.right.items) state c

-- an action is taken
abbrev pub IsTaken : Machine → List ℕ → Config → Action → Config → Type 0
IsTaken m tokens c (Shift p) d = (c.read < length tokens) × (d ≡ shifted p c)
IsTaken m tokens c (Reduce r) d = IsReplaced m r c d
IsTaken m tokens c Accept d = ⊥

-- one step: the action that the table says
pub record Steps (table : TableView) (tokens : List ℕ) (c d : Config) : Type 0 where
  pub action : Action
  pub is : action_in table tokens c ≡ Some action
  pub taken : IsTaken table.machine tokens c action d

-- what steps lead to
pub data IsReached (table : TableView) (tokens : List ℕ) : Config → Type 0 where
  begins : {c : Config} → c ≡ beginning → IsReached table tokens c
  then_steps : {c d : Config} → IsReached table tokens c → Steps table tokens c d →
      IsReached table tokens d

-- state p has rule 0 with its dot behind all, and that many states are on the stack
pub record IsLast (m : Machine) (p count : ℕ) : Type 0 where
  pub item : ℕ
  pub completes : Completes m.grammar.rules.items 0 item
  pub there : HasItem m.sets p item
  pub whole : completes.item.dot ≡ count

-- all tokens are read, and the end leads to such a state
pub record IsAccepted (table : TableView) (tokens : List ℕ) (c : Config) : Type 0 where
  pub read : length tokens ≤ c.read
  pub state : ℕ
  pub is : action_in table tokens c ≡ Some (Shift state)
  pub last : IsLast table.machine state (length c.states)
