-- The symbols behind the dots of a set of items, by number. No public clause cites this page.
use Rattle.std.specs.Prelude.{◌≡◌, ℕ, ◌+◌, ◌-◌, Bool, if◌then◌else◌, nat_lt, List}
use Rattle.vob_lr.specs.Expansions.{Has}
use Rattle.vob_lr.specs.Items.{HasNext}
use Rattle.vob_lr.specs.States.{IsAhead}
use Rattle.vob_lr.specs.declared.grammar.Grammar.{Grammar}
use Rattle.vob_lr.specs.declared.grammar.Symbol.{Symbol}
use Rattle.vob_lr.specs.declared.grammar.Symbol.TheVariants.{Terminal, Nonterminal}

-- the symbol with a number: the terminals come first
abbrev pub symbol_with : ℕ → ℕ → Symbol
symbol_with terminals k = if nat_lt k terminals then Terminal k else Nonterminal (k - terminals)

-- and the number of a symbol
abbrev pub number_of : ℕ → Symbol → ℕ
number_of terminals (Terminal t) = t
number_of terminals (Nonterminal a) = terminals + a

-- item j has the symbol with number k behind its dot
abbrev pub HasAhead : Grammar → ℕ → ℕ → Type 0
HasAhead grammar j k = HasNext grammar.rules.items j (symbol_with grammar.terminals k)

-- the numbers of the symbols behind the dots of a set
pub record AreAhead (grammar : Grammar) (set : List ℕ) (ahead : List Bool) : Type 0 where
  pub each : (x : Symbol) → IsAhead grammar.rules.items set x →
      (k : ℕ) × Has ahead k × (symbol_with grammar.terminals k ≡ x)
  pub only : (k : ℕ) → Has ahead k →
      IsAhead grammar.rules.items set (symbol_with grammar.terminals k)
