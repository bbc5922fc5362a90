-- What the passes over the rules of a grammar keep. No public clause cites this page.
use Rattle.std.specs.Prelude.{◌≡◌, ℕ, ◌<◌, Bool, true, false, List, [], ◌∷◌, All}
use Rattle.vob_block.specs.Packing.{item}
use Rattle.vob.specs.Bits.{count_of}
use Rattle.vob_lr.specs.Grammar.{BecomesEmpty}
use Rattle.vob_lr.specs.declared.grammar.Rule.{Rule}
use Rattle.vob_lr.specs.declared.grammar.Symbol.{Symbol}
use Rattle.vob_lr.specs.declared.grammar.Symbol.TheVariants.{Terminal, Nonterminal}

-- a symbol that is a nonterminal of a set
abbrev pub IsNull : List Bool → Symbol → Type 0
IsNull nullable (Terminal t) = ⊥
IsNull nullable (Nonterminal a) = item nullable a ≡ true

-- a set that has the left side of a rule where it has all of the right side
abbrev pub HasNull : Rule → List Bool → Type 0
HasNull rule nullable = All (IsNull nullable) rule.right.items → item nullable rule.left ≡ true

-- a set that is closed under some rules
abbrev pub IsNullClosed : List Rule → List Bool → Type 0
IsNullClosed rules nullable = All (λ rule. HasNull rule nullable) rules

-- a set of nonterminals that can become empty
abbrev pub AreEmptied : List Rule → List Bool → Type 0
AreEmptied rules nullable =
    (a : ℕ) → item nullable a ≡ true → BecomesEmpty rules (Nonterminal a ∷ [])

-- a set that met a demand already, or has more now
pub record AddsNull (Meets : List Bool → Type 0) (before after : List Bool) (grew : Bool)
    : Type 0 where
  pub same : grew ≡ false → after ≡ before
  pub met : grew ≡ false → Meets before
  pub more : grew ≡ true → count_of true before < count_of true after
