-- How a parser by a table grows trees. No public clause cites this page.
use Rattle.std.specs.Prelude.{◌≡◌, ℕ, ◌+◌, ◌<◌, List, [], ◌∷◌, length, slice_get, slice_index_or, Some}
use Rattle.vob_lr.specs.Lookaheads.{HasMove}
use Rattle.vob_lr.specs.Tables.{TableView, chosen_at}
use Rattle.vob_lr.specs.Trees.{Trees}
use Rattle.vob_lr.specs.Trees.Trees.{none, leaf, node}
use Rattle.vob_lr.specs.declared.grammar.Rule.{Rule}
use Rattle.vob_lr.specs.declared.grammar.Symbol.{Symbol}
use Rattle.vob_lr.specs.declared.grammar.Symbol.TheVariants.{Terminal, Nonterminal}
use Rattle.vob_lr.specs.declared.table.Action.TheVariants.{Reduce, Shift}

-- from state q a parser that has read n tokens pushes symbols, above which it grows trees. It has
-- then read m tokens, and state s is on top
pub data Grows (table : TableView) (tokens : List ℕ) : ℕ → List Symbol → Trees → ℕ → ℕ → ℕ → Type 0 where
  nothing : {q n : ℕ} → Grows table tokens q [] none n n q
  shifts : {q p s n m t : ℕ} {xs : List Symbol} {more : Trees} →
      n < length tokens → slice_index_or tokens n 0 ≡ t → chosen_at table.cells q t ≡ Some (Shift p) →
      Grows table tokens p xs more (n + 1) m s →
      Grows table tokens q (Terminal t ∷ xs) (leaf t more) n m s
  reduces : {q o p s n k m r : ℕ} {rule : Rule} {xs : List Symbol} {below more : Trees} →
      slice_get table.machine.grammar.rules.items r ≡ Some rule →
      Grows table tokens q rule.right.items below n k o →
      chosen_at table.cells o (slice_index_or tokens k 0) ≡ Some (Reduce r) →
      HasMove table.machine.moves q (Nonterminal rule.left) p →
      Grows table tokens p xs more k m s →
      Grows table tokens q (Nonterminal rule.left ∷ xs) (node r below more) n m s
