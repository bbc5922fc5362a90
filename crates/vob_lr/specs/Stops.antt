-- Where a parser stops, and why.
use Rattle.std.specs.Prelude.{◌≡◌, ℕ, ◌<◌, ◌≤◌, List, ◌++◌, length, reverse, slice_get, Some, codes}
use Rattle.std.specs.Fmt.{decimal}
use Rattle.vob_lr.specs.Faults.{IsWellFormed}
use Rattle.vob_lr.specs.Parses.{Config, IsAccepted, IsReached, Steps}
use Rattle.vob_lr.specs.States.{AreStates}
use Rattle.vob_lr.specs.Tables.{AreSound, TableView}
use Rattle.vob_lr.specs.declared.grammar.Rule.{Rule}
use Rattle.vob_lr.specs.declared.parse.ParseError.{ParseError}
use Rattle.vob_lr.specs.declared.parse.ParseError.TheVariants.{Memory, TooLong, Unexpected}

-- steps lead to a parser that accepts, and reduced by these rules
pub record AcceptsBy (table : TableView) (tokens rules : List ℕ) : Type 0 where
  pub config : Config
  pub reached : IsReached table tokens config
  pub accepted : IsAccepted table tokens config
  pub rules_of : reverse rules ≡ config.reduced

-- no action takes the token with index n, or the end
pub record IsUnexpected (table : TableView) (tokens : List ℕ) (n : ℕ) : Type 0 where
  pub config : Config
  pub reached : IsReached table tokens config
  pub read : config.read ≡ n
  pub no_step : (d : Config) → ¬ Steps table tokens config d
  pub not_accepted : ¬ IsAccepted table tokens config

-- more reductions than so many are reached
pub record IsTooLong (table : TableView) (tokens : List ℕ) (steps : ℕ) : Type 0 where
  pub config : Config
  pub reached : IsReached table tokens config
  pub more : steps < length config.reduced

-- why no step leads on: there is none, or it is one reduction too many
abbrev pub IsStop : (Config → Type 0) → ℕ → Config → ParseError → Type 0
IsStop Next steps c Memory = Unit {0}
IsStop Next steps c (Unexpected n) = (c.read ≡ n) × ((d : Config) → ¬ Next d)
IsStop Next steps c TooLong = (d : Config) × Next d × (steps < length d.reduced)

-- the actions of a table are those of its grammar's states, and the rules name symbols of the grammar alone
pub record IsSound (table : TableView) : Type 0 where
  pub rules : IsWellFormed table.machine.grammar
  pub states : AreStates table.machine.grammar.rules.items table.machine.sets table.machine.moves
  pub actions : AreSound table.machine table.cells

-- a parser takes one way: what a step leads to is one
abbrev pub StepsAreOne : Type 0
StepsAreOne = (table : TableView) → IsSound table → (tokens : List ℕ) (c d e : Config) →
    Steps table tokens c d → Steps table tokens c e → d ≡ e

-- rule r is there, and as many states as its right side has symbols
pub record CanReplace (rules : List Rule) (r : ℕ) (c : Config) : Type 0 where
  pub rule : Rule
  pub is : slice_get rules r ≡ Some rule
  pub long : length rule.right.items ≤ length c.states

-- the number of a refusal
abbrev pub parse_error_number : ParseError → ℕ
parse_error_number Memory = 2
parse_error_number (Unexpected n) = 9
parse_error_number TooLong = 10

-- the text of a refusal
abbrev pub parse_error_text : ParseError → List ℕ
parse_error_text Memory = codes "out of memory"
parse_error_text (Unexpected n) = codes "no action takes token " ++ decimal n
parse_error_text TooLong = codes "too many reductions"
