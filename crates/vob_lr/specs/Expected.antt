-- What a parser expects behind tokens.
use Rattle.std.specs.Prelude.{◌≡◌, ◌↔◌, ℕ, ◌<◌, Bool, true, List, [], ◌∷◌, ◌++◌, length, Some}
use Rattle.vob_block.specs.Packing.{item}
use Rattle.vob_lr.specs.Derivations.{IsSentence}
use Rattle.vob_lr.specs.Languages.{IsLalr, rules_of}
use Rattle.vob_lr.specs.Parses.{Config, IsReached, Steps, beginning, top}
use Rattle.vob_lr.specs.Tables.{TableView, chosen_at}
use Rattle.vob_lr.specs.declared.table.Action.{Action}

-- a parser has read the tokens just now: there are none and it begins, or it has shifted the last of them
pub data HasRead (table : TableView) (tokens : List ℕ) : Config → Type 0 where
  nothing : {c : Config} → tokens ≡ [] → c ≡ beginning → HasRead table tokens c
  shifts : {c d : Config} → IsReached table tokens c → c.read < length tokens → Steps table tokens c d →
      d.read ≡ length tokens → HasRead table tokens d

-- an action stands in state q if terminal t is ahead
abbrev pub Acts : TableView → ℕ → ℕ → Type 0
Acts table q t = (action : Action) × (chosen_at table.cells q t ≡ Some action)

-- a bit for each terminal: true exactly if P holds
pub record AreTerminals (table : TableView) (P : ℕ → Type 0) (set : List Bool) : Type 0 where
  pub long : length set ≡ table.machine.grammar.terminals
  pub each : (t : ℕ) → (item set t ≡ true) ↔ P t

-- those for which an action stands once a parser has read the tokens
abbrev pub AreExpected : TableView → List ℕ → List Bool → Type 0
AreExpected table tokens set =
    (c : Config) × HasRead table tokens c × AreTerminals table (Acts table (top c.states)) set

-- whatever can stand behind tokens has an action there: the terminals with which they begin a sentence of an LALR(1)
-- grammar, and the end if they are one
abbrev pub ExpectedAreAll : Type 0
ExpectedAreAll = (table : TableView) → IsLalr table → (tokens : List ℕ) (c : Config) → HasRead table tokens c →
    (IsSentence (rules_of table) tokens → Acts table (top c.states) 0)
    × ((t : ℕ) (more : List ℕ) → IsSentence (rules_of table) (tokens ++ t ∷ more) → Acts table (top c.states) t)
