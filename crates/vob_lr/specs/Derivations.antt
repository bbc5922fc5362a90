-- What symbols derive by the rules of a grammar, and what nullable, first and follow mean by it.
use Rattle.std.specs.Prelude.{◌≡◌, ◌↔◌, ℕ, List, [], ◌∷◌, ◌++◌, map, reverse, slice_get, Some}
use Rattle.vob_lr.specs.Grammar.{BecomesEmpty, BeginsWith, Follows, HasRule}
use Rattle.vob_lr.specs.declared.grammar.Rule.{Rule}
use Rattle.vob_lr.specs.declared.grammar.Symbol.{Symbol}
use Rattle.vob_lr.specs.declared.grammar.Symbol.TheVariants.{Terminal, Nonterminal}

-- in one step a nonterminal is replaced by the right side of one of its rules
pub data DerivesInOne (rules : List Rule) (xs ys : List Symbol) : Type 0 where
  replaced : {a : ℕ} {right : List Symbol} (before after : List Symbol) →
      HasRule rules a right → xs ≡ before ++ Nonterminal a ∷ after →
      ys ≡ before ++ (right ++ after) → DerivesInOne rules xs ys

-- in any number of steps
pub data Derives (rules : List Rule) (xs : List Symbol) : List Symbol → Type 0 where
  itself : Derives rules xs xs
  further : {ys zs : List Symbol} → Derives rules xs ys → DerivesInOne rules ys zs →
      Derives rules xs zs

-- symbols derive some tokens by these rules, each in place of the last nonterminal: a rightmost
-- derivation
pub data DerivesBy (rules : List Rule) (tokens : List ℕ) : List Symbol → List ℕ → Type 0 where
  nothing : {xs : List Symbol} → xs ≡ map Terminal tokens → DerivesBy rules tokens xs []
  further : {xs : List Symbol} {r : ℕ} {rs : List ℕ} {rule : Rule} (before : List Symbol)
      (after : List ℕ) → slice_get rules r ≡ Some rule →
      xs ≡ before ++ Nonterminal rule.left ∷ map Terminal after →
      DerivesBy rules tokens (before ++ (rule.right.items ++ map Terminal after)) rs →
      DerivesBy rules tokens xs (r ∷ rs)

-- rules that, read backwards, are a rightmost derivation of the tokens from what stands before the
-- end in rule 0
pub record IsParse (rules : List Rule) (tokens parsed : List ℕ) : Type 0 where
  pub rule : Rule
  pub is : slice_get rules 0 ≡ Some rule
  pub symbols : List Symbol
  pub then_end : rule.right.items ≡ symbols ++ Terminal 0 ∷ []
  pub derives : DerivesBy rules tokens symbols (reverse parsed)

-- tokens that what stands before the end in rule 0 derives
pub record IsSentence (rules : List Rule) (tokens : List ℕ) : Type 0 where
  pub rule : Rule
  pub is : slice_get rules 0 ≡ Some rule
  pub symbols : List Symbol
  pub then_end : rule.right.items ≡ symbols ++ Terminal 0 ∷ []
  pub derives : Derives rules symbols (map Terminal tokens)

-- a rule as its symbols: the nonterminal on its left side, and those on its right side
abbrev pub sides : Rule → ℕ × List Symbol
sides rule = (rule.left, rule.right.items)

-- rules with the same symbols have the same parses
abbrev pub ParsesAreOfSymbols : Type 0
ParsesAreOfSymbols = (rules others : List Rule) → map sides rules ≡ map sides others →
    (tokens parsed : List ℕ) → IsParse rules tokens parsed → IsParse others tokens parsed

-- symbols can become empty exactly if they derive nothing
abbrev pub EmptyIsDerived : Type 0
EmptyIsDerived = (rules : List Rule) (xs : List Symbol) →
    BecomesEmpty rules xs ↔ Derives rules xs []

-- a terminal can begin symbols exactly if they derive some that it begins
abbrev pub BeginningIsDerived : Type 0
BeginningIsDerived = (rules : List Rule) (t : ℕ) (xs : List Symbol) →
    BeginsWith rules t xs ↔ ((rest : List Symbol) × Derives rules xs (Terminal t ∷ rest))

-- it can follow a nonterminal exactly if some nonterminal derives symbols where it does
abbrev pub FollowingIsDerived : Type 0
FollowingIsDerived = (rules : List Rule) (t a : ℕ) →
    Follows rules t a ↔ ((b : ℕ) × (before : List Symbol) × (after : List Symbol)
    × Derives rules (Nonterminal b ∷ []) (before ++ Nonterminal a ∷ Terminal t ∷ after))

-- what derives tokens has a rightmost derivation of them, and only that does
abbrev pub DerivedIsRightmost : Type 0
DerivedIsRightmost = (rules : List Rule) (tokens : List ℕ) (xs : List Symbol) →
    Derives rules xs (map Terminal tokens) ↔ ((by : List ℕ) × DerivesBy rules tokens xs by)

-- sentences are the tokens that have a parse
abbrev pub SentencesHaveParses : Type 0
SentencesHaveParses = (rules : List Rule) (tokens : List ℕ) →
    IsSentence rules tokens ↔ ((parsed : List ℕ) × IsParse rules tokens parsed)
