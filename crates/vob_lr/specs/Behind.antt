-- What stands behind the nonterminals of right sides. No public clause cites this page.
use Rattle.std.specs.Prelude.{◌≡◌, ◌↔◌, ◌⊎◌, ℕ, ◌<◌, Bool, true, List, [], ◌∷◌}
use Rattle.vob_block.specs.Packing.{item}
use Rattle.vob_flow.specs.Draws.{IsIn}
use Rattle.vob_lr.specs.Grammar.{BecomesEmpty, BeginsWith}
use Rattle.vob_lr.specs.declared.grammar.Rule.{Rule}
use Rattle.vob_lr.specs.declared.grammar.Symbol.{Symbol}
use Rattle.vob_lr.specs.declared.grammar.Symbol.TheVariants.{Terminal, Nonterminal}

-- terminal t is a symbol itself, or in the row of a nonterminal
abbrev pub IsStart : List (List Bool) → Symbol → ℕ → Type 0
IsStart rows (Terminal u) t = u ≡ t
IsStart rows (Nonterminal a) t = IsIn rows a t

-- what can begin some symbols, and whether they can become empty
pub record IsTrailer (rules : List Rule) (symbols : List Symbol) (starts : List Bool)
    (empty : Bool) : Type 0 where
  pub begins : (t : ℕ) → (item starts t ≡ true) ↔ BeginsWith rules t symbols
  pub ends : (empty ≡ true) ↔ BecomesEmpty rules symbols

-- a terminal of a set, or a nonterminal where all can become empty
abbrev pub IsOfTrailer : ℕ → List Bool → Bool → Symbol → Type 0
IsOfTrailer left starts empty (Terminal t) = item starts t ≡ true
IsOfTrailer left starts empty (Nonterminal b) = (left ≡ b) × (empty ≡ true)

-- a terminal that can begin symbols, or a nonterminal where they can become empty
abbrev pub StandsBehind : List Rule → ℕ → List Symbol → Symbol → Type 0
StandsBehind rules left after (Terminal t) = BeginsWith rules t after
StandsBehind rules left after (Nonterminal b) = (left ≡ b) × BecomesEmpty rules after

-- the same of the symbols behind nonterminal a somewhere
abbrev pub IsBehind : List Rule → ℕ → List Symbol → ℕ → Symbol → Type 0
IsBehind rules left [] a y = ⊥
IsBehind rules left (x ∷ after) a y =
    ((x ≡ Nonterminal a) × StandsBehind rules left after y) ⊎ IsBehind rules left after a y

-- on one of some right sides
abbrev pub HasBehind : List Rule → List Rule → ℕ → Symbol → Type 0
HasBehind rules [] a y = ⊥
HasBehind rules (rule ∷ more) a y =
    IsBehind rules rule.left rule.right.items a y ⊎ HasBehind rules more a y

-- a nonterminal that is there
abbrev pub IsBelow : ℕ → Symbol → Type 0
IsBelow count (Terminal t) = Unit {0}
IsBelow count (Nonterminal a) = a < count
