-- Which nonterminals derive tokens.
use Rattle.std.specs.Prelude.{◌≡◌, ◌↔◌, ℕ, Bool, true, List, [], ◌∷◌, length, map}
use Rattle.vob_block.specs.Packing.{item}
use Rattle.vob_lr.specs.Derivations.{Derives}
use Rattle.vob_lr.specs.declared.grammar.Grammar.{Grammar}
use Rattle.vob_lr.specs.declared.grammar.Rule.{Rule}
use Rattle.vob_lr.specs.declared.grammar.Symbol.{Symbol}
use Rattle.vob_lr.specs.declared.grammar.Symbol.TheVariants.{Nonterminal, Terminal}

-- nonterminal a derives some tokens
abbrev pub DerivesTokens : List Rule → ℕ → Type 0
DerivesTokens rules a = (ts : List ℕ) × Derives rules (Nonterminal a ∷ []) (map Terminal ts)

-- a bit for each nonterminal: true exactly if it derives some tokens
pub record TellProductive (grammar : Grammar) (set : List Bool) : Type 0 where
  pub count : length set ≡ grammar.nonterminals
  pub each : (a : ℕ) → (item set a ≡ true) ↔ DerivesTokens grammar.rules.items a

-- the nonterminals among symbols, in their order
abbrev pub nonterminals_in : List Symbol → List Symbol
nonterminals_in [] = []
nonterminals_in (Terminal t ∷ xs) = nonterminals_in xs
nonterminals_in (Nonterminal a ∷ xs) = Nonterminal a ∷ nonterminals_in xs

-- a rule as the nonterminals on its left and on its right side
abbrev pub bare : Rule → ℕ × List Symbol
bare rule = (rule.left, nonterminals_in rule.right.items)
