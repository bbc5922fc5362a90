-- Which nonterminals derive themselves.
use Rattle.std.specs.Prelude.{ℕ, ◌<◌, List, [], ◌∷◌}
use Rattle.vob_lr.specs.Derivations.{Derives, DerivesInOne}
use Rattle.vob_lr.specs.declared.grammar.Rule.{Rule}
use Rattle.vob_lr.specs.declared.grammar.Symbol.{Symbol}
use Rattle.vob_lr.specs.declared.grammar.Symbol.TheVariants.{Nonterminal}

-- nonterminal a derives itself: some form follows from it by one step, and derives it
pub record DerivesItself (rules : List Rule) (a : ℕ) : Type 0 where
  pub form : List Symbol
  pub step : DerivesInOne rules (Nonterminal a ∷ []) form
  pub back : Derives rules form (Nonterminal a ∷ [])

-- number n is the lowest for which P holds
pub record IsLowest (P : ℕ → Type 0) (n : ℕ) : Type 0 where
  pub holds : P n
  pub lower : (m : ℕ) → m < n → ¬ P m
