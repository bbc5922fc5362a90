-- Which rule of a grammar is the first that names a symbol that isn't there.
use Rattle.std.specs.Prelude.{◌≡◌, ◌≢◌, ℕ, ◌<◌, List, [], ◌++◌, slice_get, Some, All, codes}
use Rattle.std.specs.Fmt.{decimal}
use Rattle.vob_lr.specs.declared.grammar.Grammar.{Grammar}
use Rattle.vob_lr.specs.declared.grammar.GrammarError.{GrammarError}
use Rattle.vob_lr.specs.declared.grammar.GrammarError.TheVariants.{Memory, BadSymbol, NoRule}
use Rattle.vob_lr.specs.declared.grammar.Rule.{Rule}
use Rattle.vob_lr.specs.declared.grammar.Symbol.{Symbol}
use Rattle.vob_lr.specs.declared.grammar.Symbol.TheVariants.{Terminal, Nonterminal}

-- one of these numbers of terminals or of nonterminals
abbrev pub IsSymbol : ℕ → ℕ → Symbol → Type 0
IsSymbol terminals nonterminals (Terminal t) = t < terminals
IsSymbol terminals nonterminals (Nonterminal a) = a < nonterminals

-- a rule of such symbols alone
abbrev pub IsRule : ℕ → ℕ → Rule → Type 0
IsRule terminals nonterminals rule =
    (rule.left < nonterminals) × All (IsSymbol terminals nonterminals) rule.right.items

-- a rule of symbols of the grammar alone
abbrev pub IsRuleOf : Grammar → Rule → Type 0
IsRuleOf grammar rule = IsRule grammar.terminals grammar.nonterminals rule

-- each rule is one
abbrev pub IsWellFormed : Grammar → Type 0
IsWellFormed grammar = All (IsRuleOf grammar) grammar.rules.items

-- rule n is the first that names another symbol
pub record IsBadRule (grammar : Grammar) (n : ℕ) : Type 0 where
  pub lower : (k : ℕ) (rule : Rule) → k < n → slice_get grammar.rules.items k ≡ Some rule →
      IsRuleOf grammar rule
  pub rule : Rule
  pub is : slice_get grammar.rules.items n ≡ Some rule
  pub bad : ¬ IsRuleOf grammar rule

-- what is wrong with the rules of a grammar
abbrev pub IsFault : Grammar → GrammarError → Type 0
IsFault grammar Memory = ⊥
IsFault grammar (BadSymbol n) = IsBadRule grammar n
IsFault grammar NoRule = ⊥

-- why a call over the rules may fail: one is at fault, or memory ran out for some nonterminal
abbrev pub MayRefuseRules : Grammar → GrammarError → Type 0
MayRefuseRules grammar Memory = grammar.nonterminals ≢ 0
MayRefuseRules grammar fault = IsFault grammar fault

-- why a call for the states of a grammar may fail: there is no rule, or one is at fault, or memory
-- ran out
abbrev pub MayRefuseGrammar : Grammar → GrammarError → Type 0
MayRefuseGrammar grammar Memory = Unit {0}
MayRefuseGrammar grammar NoRule = grammar.rules.items ≡ []
MayRefuseGrammar grammar fault = IsFault grammar fault

-- the number of a refusal
abbrev pub grammar_error_number : GrammarError → ℕ
grammar_error_number Memory = 2
grammar_error_number (BadSymbol rule) = 7
grammar_error_number NoRule = 8

-- the text of a refusal
abbrev pub grammar_error_text : GrammarError → List ℕ
grammar_error_text Memory = codes "out of memory"
grammar_error_text (BadSymbol rule) =
    codes "rule " ++ decimal rule ++ codes " names a symbol that isn't there"
grammar_error_text NoRule = codes "there is no rule"
