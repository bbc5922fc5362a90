-- The language of a grammar, and what a parser by its table accepts.
use Rattle.std.specs.Prelude.{◌≡◌, ◌≢◌, ◌↔◌, ℕ, ◌+◌, ◌<◌, ◌≤◌, List, [], ◌∷◌, ◌++◌, length, slice_get, take, All, Some}
use Rattle.vob_lr.specs.Conflicts.{AreConflicts, AreDecided}
use Rattle.vob_lr.specs.Derivations.{IsParse, IsSentence}
use Rattle.vob_lr.specs.Productive.{DerivesTokens}
use Rattle.vob_lr.specs.Stops.{AcceptsBy, IsSound, IsTooLong, IsUnexpected}
use Rattle.vob_lr.specs.Tables.{TableView}
use Rattle.vob_lr.specs.declared.grammar.Grammar.{Grammar}
use Rattle.vob_lr.specs.declared.grammar.Rule.{Rule}
use Rattle.vob_lr.specs.declared.grammar.Symbol.{Symbol}
use Rattle.vob_lr.specs.declared.grammar.Symbol.TheVariants.{Terminal}

-- the table of an LALR(1) grammar: no cell has more than one action, and precedence left none out
pub record IsLalr (table : TableView) : Type 0 where
  pub sound : IsSound table
  pub conflicts : AreConflicts table.cells []
  pub decided : AreDecided table []

-- the rules of a table's grammar
abbrev pub rules_of : TableView → List Rule
rules_of table = table.machine.grammar.rules.items

-- a parser by such a table accepts exactly the sentences
abbrev pub AcceptedAreSentences : Type 0
AcceptedAreSentences = (table : TableView) → IsLalr table → (tokens : List ℕ) →
    IsSentence (rules_of table) tokens ↔ ((parsed : List ℕ) × AcceptsBy table tokens parsed)

-- each sentence has one parse
abbrev pub SentencesHaveOneParse : Type 0
SentencesHaveOneParse = (table : TableView) → IsLalr table → (tokens parsed other : List ℕ) →
    IsParse (rules_of table) tokens parsed → IsParse (rules_of table) tokens other → parsed ≡ other

-- an error is early: with the token that no action takes, the tokens before it begin no sentence
abbrev pub ErrorsAreEarly : Type 0
ErrorsAreEarly = (table : TableView) → IsLalr table → (tokens : List ℕ) (n : ℕ) →
    IsUnexpected table tokens n →
    (n ≤ length tokens) × ¬ IsSentence (rules_of table) tokens
    × (n < length tokens → (more : List ℕ) → ¬ IsSentence (rules_of table) (take (n + 1) tokens ++ more))

-- each nonterminal derives some tokens
abbrev pub AreProductive : Grammar → Type 0
AreProductive grammar = (a : ℕ) → a < grammar.nonterminals → DerivesTokens grammar.rules.items a

-- rule 0 ends with the end
abbrev pub HasEnd : List Rule → Type 0
HasEnd rules = (rule : Rule) × (symbols : List Symbol) × (slice_get rules 0 ≡ Some rule)
    × (rule.right.items ≡ symbols ++ Terminal 0 ∷ [])

-- and late enough: the tokens before it begin a sentence, if none of them is the end
abbrev pub ErrorsAreLate : Type 0
ErrorsAreLate = (table : TableView) → IsSound table → AreProductive table.machine.grammar →
    HasEnd (rules_of table) → (tokens : List ℕ) (n : ℕ) → All (λ t. t ≢ 0) (take n tokens) →
    IsUnexpected table tokens n →
    (more : List ℕ) × IsSentence (rules_of table) (take n tokens ++ more)

-- each sentence of n tokens has a parse by at most so many reductions
abbrev pub Suffice : List Rule → ℕ → ℕ → Type 0
Suffice rules n reductions = (tokens : List ℕ) → length tokens ≡ n → IsSentence rules tokens →
    (parsed : List ℕ) × IsParse rules tokens parsed × (length parsed ≤ reductions)

-- more reductions are reached than suffice for as many tokens
abbrev pub MoreThanSuffice : TableView → List ℕ → Type 0
MoreThanSuffice table tokens = (reductions : ℕ)
    × Suffice (rules_of table) (length tokens) reductions × IsTooLong table tokens reductions

-- tokens of which that is so are no sentence
abbrev pub TooLongIsNoSentence : Type 0
TooLongIsNoSentence = (table : TableView) → IsLalr table → (tokens : List ℕ) →
    MoreThanSuffice table tokens → ¬ IsSentence (rules_of table) tokens
