-- What stands first on right sides, behind symbols that can become empty. No public clause cites
-- this page.
use Rattle.std.specs.Prelude.{◌≡◌, ◌⊎◌, ℕ, ◌<◌, Bool, List, [], ◌∷◌}
use Rattle.vob_lr.specs.Passes.{IsNull}
use Rattle.vob_lr.specs.declared.grammar.Rule.{Rule}
use Rattle.vob_lr.specs.declared.grammar.Symbol.{Symbol}
use Rattle.vob_lr.specs.declared.grammar.Symbol.TheVariants.{Terminal, Nonterminal}

-- a terminal with a place in a set
abbrev pub HasPlace : ℕ → Symbol → Type 0
HasPlace places (Terminal t) = t < places
HasPlace places (Nonterminal a) = Unit {0}

-- symbol y is one of these symbols, and those before it are nullable
abbrev pub IsHead : List Bool → List Symbol → Symbol → Type 0
IsHead nullable [] y = ⊥
IsHead nullable (x ∷ xs) y = (x ≡ y) ⊎ (IsNull nullable x × IsHead nullable xs y)

-- it is on the right side of one of these rules of nonterminal a
abbrev pub HasHead : List Bool → List Rule → ℕ → Symbol → Type 0
HasHead nullable [] a y = ⊥
HasHead nullable (rule ∷ rules) a y =
    ((rule.left ≡ a) × IsHead nullable rule.right.items y) ⊎ HasHead nullable rules a y
