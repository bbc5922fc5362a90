-- What symbols become by rules, as a parser finds it. No public clause cites this page.
use Rattle.std.specs.Prelude.{◌≡◌, ℕ, List, [], ◌∷◌, ◌++◌, slice_get, Some}
use Rattle.vob_lr.specs.Lookaheads.{HasMove, Machine, Reduces}
use Rattle.vob_lr.specs.Tables.{chosen_at}
use Rattle.vob_lr.specs.declared.grammar.Rule.{Rule}
use Rattle.vob_lr.specs.declared.grammar.Symbol.{Symbol}
use Rattle.vob_lr.specs.declared.grammar.Symbol.TheVariants.{Terminal, Nonterminal}
use Rattle.vob_lr.specs.declared.table.Action.TheVariants.{Reduce, Shift}
use Rattle.vob_lr.specs.declared.table.Cell.{Cell}

-- symbols become some tokens: a terminal is one itself, and a nonterminal becomes what the right side
-- of a rule does. The rules stand in the order in which a parser reduces by them
pub data Becomes (rules : List Rule) : List Symbol → List ℕ → List ℕ → Type 0 where
  nothing : Becomes rules [] [] []
  terminal : {t : ℕ} {xs : List Symbol} {ts rs : List ℕ} → Becomes rules xs ts rs →
      Becomes rules (Terminal t ∷ xs) (t ∷ ts) rs
  by_rule : (r : ℕ) (rule : Rule) {xs : List Symbol} (ts us rs ss : List ℕ) →
      slice_get rules r ≡ Some rule → Becomes rules rule.right.items ts rs → Becomes rules xs us ss →
      Becomes rules (Nonterminal rule.left ∷ xs) (ts ++ us) (rs ++ r ∷ ss)

-- each action that a parser may do is the one that the table says
pub record AreDone (m : Machine) (cells : List (List Cell)) : Type 0 where
  pub shifts : (q t p : ℕ) → HasMove m.moves q (Terminal t) p → chosen_at cells q t ≡ Some (Shift p)
  pub reduces : (q t r : ℕ) → Reduces m q t r → chosen_at cells q t ≡ Some (Reduce r)
