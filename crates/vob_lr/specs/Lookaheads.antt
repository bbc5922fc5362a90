-- The lookaheads of the items of states: the terminals that may follow what an item stands for.
use Rattle.std.specs.Prelude.{◌≡◌, ◌↔◌, ℕ, ◌+◌, Bool, true, List, [], length, drop, slice_index_or, Contains}
use Rattle.vob_block.specs.Packing.{item}
use Rattle.vob_flow.specs.Lists.{lists_of}
use Rattle.vob_lr.specs.Grammar.{BecomesEmpty, BeginsWith}
use Rattle.vob_lr.specs.ItemSets.{HasItem, Opens}
use Rattle.vob_lr.specs.Items.{Completes, HasNext}
use Rattle.vob_lr.specs.Rounds.{rows_of}
use Rattle.vob_lr.specs.declared.grammar.Grammar.{Grammar}
use Rattle.vob_lr.specs.declared.grammar.Rule.{Rule}
use Rattle.vob_lr.specs.declared.grammar.Symbol.{Symbol}
use Rattle.vob_lr.specs.declared.grammar.Symbol.TheVariants.{Nonterminal}
use Rattle.vob_lr.specs.declared.state.Automaton.{Automaton}
use Rattle.vob_lr.specs.declared.state.Move.{Move}

-- a grammar, its states and their moves
pub record Machine : Type 0 where
  pub grammar : Grammar
  pub sets : List (List ℕ)
  pub moves : List (List Move)

-- those of an automaton
abbrev pub machine_of : Grammar → Automaton → Machine
machine_of grammar automaton = record {
  grammar = grammar;
  sets = lists_of automaton.sets.items;
  moves = rows_of automaton.moves.items;
}

-- nonterminal a stands behind the dot of item j, and these symbols behind it
pub record HasNextThen (rules : List Rule) (j a : ℕ) (rest : List Symbol) : Type 0 where
  pub next : HasNext rules j (Nonterminal a)
  pub then_rest : drop (next.item.dot + 1) next.is.rule.right.items ≡ rest

-- state q has a move to state p by symbol x
abbrev pub HasMove : List (List Move) → ℕ → Symbol → ℕ → Type 0
HasMove moves q x p = Contains (slice_index_or moves q []) (record { symbol = x; state = p })

-- terminal t is a lookahead of item i in state q. An item with nonterminal a behind its dot gives
-- the first items of a's rules what can begin the symbols behind a, and its own lookaheads if these
-- can become empty; and an item keeps its lookaheads as its dot passes a symbol
pub data LooksAhead (m : Machine) (t : ℕ) : ℕ → ℕ → Type 0 where
  begins : {q j a i : ℕ} {rest : List Symbol} → HasItem m.sets q j →
      HasNextThen m.grammar.rules.items j a rest → BeginsWith m.grammar.rules.items t rest →
      Opens m.grammar.rules.items a i → LooksAhead m t q i
  passes : {q j a i : ℕ} {rest : List Symbol} → LooksAhead m t q j →
      HasNextThen m.grammar.rules.items j a rest → BecomesEmpty m.grammar.rules.items rest →
      Opens m.grammar.rules.items a i → LooksAhead m t q i
  keeps : {q j p : ℕ} {x : Symbol} → LooksAhead m t q j → HasNext m.grammar.rules.items j x →
      HasMove m.moves q x p → LooksAhead m t p (j + 1)

-- a set with a bit for each terminal, true exactly for the lookaheads of item i in state q
pub record AreLookaheads (m : Machine) (q i : ℕ) (set : List Bool) : Type 0 where
  pub len : length set ≡ m.grammar.terminals
  pub each : (t : ℕ) → (item set t ≡ true) ↔ LooksAhead m t q i

-- in state q terminal t is a lookahead of rule r's complete item
abbrev pub Reduces : Machine → ℕ → ℕ → ℕ → Type 0
Reduces m q t r = (i : ℕ) × Completes m.grammar.rules.items r i × LooksAhead m t q i
