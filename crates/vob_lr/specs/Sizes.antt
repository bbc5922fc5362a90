-- By how many rules symbols become tokens. No public clause cites this page.
use Rattle.std.specs.Prelude.{◌≡◌, ◌⊎◌, ℕ, ◌+◌, ◌*◌, ◌≤◌, Bool, true, List, [], ◌∷◌, length, slice_index_or}
use Rattle.vob_block.specs.Packing.{item}
use Rattle.vob_lr.specs.Becoming.{Becomes}
use Rattle.vob_lr.specs.Languages.{Suffice}
use Rattle.vob_lr.specs.declared.grammar.Rule.{Rule}
use Rattle.vob_lr.specs.declared.grammar.Symbol.{Symbol}
use Rattle.vob_lr.specs.declared.grammar.Symbol.TheVariants.{Nonterminal}

-- symbols become tokens by at most n rules
pub record IsShort (rules : List Rule) (xs : List Symbol) (ts : List ℕ) (n : ℕ) : Type 0 where
  pub by : List ℕ
  pub becomes : Becomes rules xs ts by
  pub long : length by ≤ n

-- symbols become empty by less than so many rules, unless that is the greatest number
abbrev pub BecomeEmptyBelow : ℕ → List Rule → List Symbol → ℕ → Type 0
BecomeEmptyBelow greatest rules xs size =
    (greatest ≤ size) ⊎ ((n : ℕ) × IsShort rules xs [] n × (n + 1 ≤ size))

-- a nonterminal becomes empty by at most so many
abbrev pub IsSize : ℕ → List Rule → ℕ → ℕ → Type 0
IsSize greatest rules a size = (greatest ≤ size) ⊎ IsShort rules (Nonterminal a ∷ []) [] size

-- the sizes of the nonterminals of a set
pub record AreSized (greatest : ℕ) (rules : List Rule) (nullable : List Bool) (sizes : List ℕ) : Type 0 where
  pub long : length sizes ≡ length nullable
  pub each : (a : ℕ) → item nullable a ≡ true → IsSize greatest rules a (slice_index_or sizes a 0)

-- so many reductions and more for each token suffice, unless they reach the greatest number
abbrev pub IsBound : ℕ → List Rule → ℕ → ℕ → Type 0
IsBound greatest rules base each =
    (n : ℕ) → (greatest ≤ base + each * n) ⊎ Suffice rules n (base + each * n)
