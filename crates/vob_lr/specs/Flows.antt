-- How lookaheads flow between the items of states. No public clause cites this page.
use Rattle.std.specs.Prelude.{◌≡◌, ◌↔◌, ◌⊎◌, ℕ, ◌+◌, Bool, List, length, slice_get, slice_index_or, [], Some}
use Rattle.vob_flow.specs.Draws.{IsIn}
use Rattle.vob_lr.specs.Behind.{StandsBehind}
use Rattle.vob_lr.specs.Faults.{IsWellFormed}
use Rattle.vob_lr.specs.Grammar.{AreFirst, AreNullable}
use Rattle.vob_lr.specs.ItemSets.{HasItem, Opens}
use Rattle.vob_lr.specs.Items.{HasNext}
use Rattle.vob_lr.specs.Lookaheads.{AreLookaheads, HasMove, HasNextThen, Machine}
use Rattle.vob_lr.specs.Nodes.{AreOffsets, member_total, node}
use Rattle.vob_lr.specs.States.{AreStates}
use Rattle.vob_lr.specs.declared.grammar.Grammar.{Grammar}
use Rattle.vob_lr.specs.declared.grammar.Symbol.{Symbol}
use Rattle.vob_lr.specs.declared.grammar.Symbol.TheVariants.{Nonterminal}
use Rattle.vob_lr.specs.declared.state.Move.{Move}

-- a row for each nonterminal: the first items of its rules
pub record AreOpenings (grammar : Grammar) (rows : List (List Bool)) : Type 0 where
  pub count : length rows ≡ grammar.nonterminals
  pub each : (a i : ℕ) → IsIn rows a i ↔ Opens grammar.rules.items a i

-- what lookaheads are found by
pub record HasTables (m : Machine) (nullable : List Bool) (first opens : List (List Bool))
    : Type 0 where
  pub rules : IsWellFormed m.grammar
  pub states : AreStates m.grammar.rules.items m.sets m.moves
  pub empties : AreNullable m.grammar nullable
  pub firsts : AreFirst m.grammar first
  pub openings : AreOpenings m.grammar opens

-- the node of an item that item j of state q brings, and what it starts with or draws from
abbrev pub IsOpened : Machine → ℕ → ℕ → ℕ → Symbol → Type 0
IsOpened m q j n y =
    (a : ℕ) × (i : ℕ) × (rest : List Symbol) × HasNextThen m.grammar.rules.items j a rest
    × Opens m.grammar.rules.items a i × (node m.sets q i ≡ n)
    × StandsBehind m.grammar.rules.items (node m.sets q j) rest y

-- the node of the item behind it, in the state that follows, which draws from it
abbrev pub IsKept : Machine → ℕ → ℕ → ℕ → Symbol → Type 0
IsKept m q j n y =
    (x : Symbol) × (p : ℕ) × HasNext m.grammar.rules.items j x × HasMove m.moves q x p
    × (node m.sets p (j + 1) ≡ n) × (Nonterminal (node m.sets q j) ≡ y)

-- the same by one move, and by the move with a number
abbrev pub IsKeptBy : Machine → ℕ → ℕ → Symbol → Move → ℕ → Symbol → Type 0
IsKeptBy m q j x move n y =
    (move.symbol ≡ x) × (node m.sets move.state (j + 1) ≡ n) × (Nonterminal (node m.sets q j) ≡ y)

abbrev pub IsKeptAt : Machine → ℕ → ℕ → Symbol → ℕ → ℕ → Symbol → Type 0
IsKeptAt m q j x k n y =
    (move : Move) × (slice_get (slice_index_or m.moves q []) k ≡ Some move)
    × IsKeptBy m q j x move n y

-- what one of item j flows to, all of state q, and all of the states below k
abbrev pub FlowsFrom : Machine → ℕ → ℕ → ℕ → Symbol → Type 0
FlowsFrom m q j n y = IsKept m q j n y ⊎ IsOpened m q j n y

abbrev pub FlowsOf : Machine → ℕ → ℕ → Symbol → Type 0
FlowsOf m q n y = (j : ℕ) × HasItem m.sets q j × FlowsFrom m q j n y

abbrev pub FlowsTo : Machine → ℕ → Symbol → Type 0
FlowsTo m n y = (q : ℕ) × FlowsOf m q n y

-- a row for each node: the lookaheads of the item
pub record HaveLookaheads (m : Machine) (rows : List (List Bool)) : Type 0 where
  pub count : length rows ≡ member_total m.sets
  pub each : (q i : ℕ) → HasItem m.sets q i →
      AreLookaheads m q i (slice_index_or rows (node m.sets q i) [])

-- by the nodes of the states
pub record AreFilled (m : Machine) (offsets : List ℕ) (rows : List (List Bool)) : Type 0 where
  pub rules : IsWellFormed m.grammar
  pub states : AreStates m.grammar.rules.items m.sets m.moves
  pub offsets_of : AreOffsets m.sets (length m.sets) offsets
  pub rows_of : HaveLookaheads m rows
