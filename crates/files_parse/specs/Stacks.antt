-- What becomes of the states on a parser's stack while a terminal is ahead. No public clause cites this page.
use Rattle.std.specs.Prelude.{◌≡◌, ◌⊎◌, ℕ, ◌+◌, ◌≤◌, Bool, true, false, List, [], ◌∷◌, ◌++◌, Some, drop, length, slice_get}
use Rattle.vob_lr.specs.Lookaheads.{HasMove}
use Rattle.vob_lr.specs.Parses.{Config, IsReached, top}
use Rattle.vob_lr.specs.Tables.{TableView, chosen_at}
use Rattle.vob_lr.specs.declared.grammar.Rule.{Rule}
use Rattle.vob_lr.specs.declared.grammar.Symbol.TheVariants.{Nonterminal}
use Rattle.vob_lr.specs.declared.table.Action.TheVariants.{Reduce, Shift}
use Rattle.files_parse.specs.declared.parser.Outcome.{Outcome}
use Rattle.files_parse.specs.declared.parser.Outcome.TheVariants.{Endless, Refused, Taken}
use Rattle.files_parse.specs.declared.parser.Step.{Step}
use Rattle.files_parse.specs.declared.parser.Step.TheVariants.{Nothing, Reduced, Shifted}

-- rule r leads from states to others, the newest first
pub record ReducesBy (table : TableView) (r : ℕ) (xs ys : List ℕ) : Type 0 where
  pub rule : Rule
  pub is : slice_get table.machine.grammar.rules.items r ≡ Some rule
  pub state : ℕ
  pub move : HasMove table.machine.moves (top (drop (length rule.right.items) xs)) (Nonterminal rule.left) state
  pub after : ys ≡ state ∷ drop (length rule.right.items) xs

-- it does, or no states follow by it
abbrev pub IsReduced : TableView → (r : ℕ) → (old new : List ℕ) → Bool → Type 0
IsReduced table r old new true = ReducesBy table r old new
IsReduced table r old new false = (ys : List ℕ) → ¬ ReducesBy table r old ys

-- with terminal t ahead, so many reductions lead from states to others
pub data Leads (table : TableView) (t : ℕ) (xs : List ℕ) : ℕ → List ℕ → Type 0 where
  here : Leads table t xs 0 xs
  further : {n r : ℕ} {ys zs : List ℕ} → Leads table t xs n ys → chosen_at table.cells (top ys) t ≡ Some (Reduce r) →
      ReducesBy table r ys zs → Leads table t xs (n + 1) zs

-- the terminal is shifted
abbrev pub Shifts : TableView → (t : ℕ) → (xs ys : List ℕ) → Type 0
Shifts table t xs ys = (p : ℕ) × (chosen_at table.cells (top xs) t ≡ Some (Shift p)) × (ys ≡ p ∷ xs)

-- no action follows
pub record Stays (table : TableView) (t : ℕ) (xs : List ℕ) : Type 0 where
  pub no_rule : (r : ℕ) (ys : List ℕ) → chosen_at table.cells (top xs) t ≡ Some (Reduce r) → ¬ ReducesBy table r xs ys
  pub no_shift : (p : ℕ) → ¬ (chosen_at table.cells (top xs) t ≡ Some (Shift p))

-- what one action does
abbrev pub IsStep : TableView → (t : ℕ) → (old new : List ℕ) → Step → Type 0
IsStep table t old new Reduced =
    (r : ℕ) × (chosen_at table.cells (top old) t ≡ Some (Reduce r)) × ReducesBy table r old new
IsStep table t old new Shifted = Shifts table t old new
IsStep table t old new Nothing = Stays table t old

-- a terminal is shifted after some reductions; or no action follows them; or they never end
abbrev pub Becomes : TableView → (t : ℕ) → (old new : List ℕ) → Outcome → Type 0
Becomes table t old new Taken = (n : ℕ) × (xs : List ℕ) × Leads table t old n xs × Shifts table t xs new
Becomes table t old new Refused = (n : ℕ) × (xs : List ℕ) × Leads table t old n xs × Stays table t xs
Becomes table t old new Endless = (k : ℕ) → (n : ℕ) × (xs : List ℕ) × (k ≤ n) × Leads table t old n xs

-- a parser has read some tokens just now, whatever follows them
abbrev pub HasRead : TableView → (tokens states : List ℕ) → Type 0
HasRead table tokens states = (more : List ℕ) →
    (c : Config) × IsReached table (tokens ++ more) c × (c.read ≡ length tokens) × (c.states ≡ states)

-- number n is added to others if P holds of it
abbrev pub IsAdded : (ℕ → Type 0) → (n : ℕ) → (old new : List ℕ) → Type 0
IsAdded P n old new = (P n × (new ≡ old ++ n ∷ [])) ⊎ ((¬ P n) × (new ≡ old))
