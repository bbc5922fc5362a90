-- What each nonterminal brings into a closure, and sets under way. No public clause cites this page.
use Rattle.std.specs.Prelude.{◌≡◌, ◌↔◌, ◌⊎◌, ℕ, ◌+◌, ◌<◌, Bool, true, Option, None, Some, List, length, Contains, slice_get, slice_index_or}
use Rattle.vob_block.specs.Packing.{item}
use Rattle.vob.specs.Vobs.{AreOfLength}
use Rattle.vob_flow.specs.Draws.{IsIn}
use Rattle.vob_lr.specs.Equations.{AreSolved, Reaches}
use Rattle.vob_lr.specs.Faults.{IsWellFormed}
use Rattle.vob_lr.specs.ItemSets.{Opens}
use Rattle.vob_lr.specs.Items.{HasNext, first_item, item_total}
use Rattle.vob_lr.specs.declared.grammar.Grammar.{Grammar}
use Rattle.vob_lr.specs.declared.grammar.Rule.{Rule}
use Rattle.vob_lr.specs.declared.grammar.Symbol.{Symbol}
use Rattle.vob_lr.specs.declared.grammar.Symbol.TheVariants.{Terminal, Nonterminal}

-- a set of bits has number i
abbrev pub Has : List Bool → ℕ → Type 0
Has set i = item set i ≡ true

-- nonterminal a brings the first items of its rules, and what a nonterminal behind their dots does
abbrev pub Expands : List Rule → ℕ → Symbol → Type 0
Expands rules a (Terminal i) = Opens rules a i
Expands rules a (Nonterminal b) = (k : ℕ) × Opens rules a k × HasNext rules k (Nonterminal b)

-- item j brings item i: the nonterminal behind its dot does
abbrev pub Brings : List Rule → ℕ → ℕ → Type 0
Brings rules j i = (a : ℕ) × HasNext rules j (Nonterminal a) × Reaches (Expands rules) i a

-- a rule's first item, or the nonterminal behind its dot
abbrev pub IsOpening : ℕ → List Symbol → Symbol → Type 0
IsOpening first right (Terminal i) = first ≡ i
IsOpening first right (Nonterminal b) = slice_get right 0 ≡ Some (Nonterminal b)

-- the same of the rules below k whose left side is nonterminal a
abbrev pub HasOpening : List Rule → ℕ → ℕ → Symbol → Type 0
HasOpening rules k a x =
    (r : ℕ) × (r < k) × (rule : Rule) × (slice_get rules r ≡ Some rule) × (rule.left ≡ a)
    × IsOpening (first_item rules r) rule.right.items x

-- a set for each nonterminal of what it brings
pub record AreExpansions (grammar : Grammar) (rows : List (List Bool)) : Type 0 where
  pub rules : IsWellFormed grammar
  pub count : length rows ≡ grammar.nonterminals
  pub long : AreOfLength (item_total grammar.rules.items) rows
  pub solved : AreSolved (Expands grammar.rules.items) rows

-- a symbol behind a dot brings item i
abbrev pub IsBrought : List (List Bool) → Option Symbol → ℕ → Type 0
IsBrought rows None i = ⊥
IsBrought rows (Some (Terminal t)) i = ⊥
IsBrought rows (Some (Nonterminal a)) i = IsIn rows a i

-- a symbol that has a row, if it is a nonterminal
abbrev pub HasRow : ℕ → Option Symbol → Type 0
HasRow count None = Unit {0}
HasRow count (Some (Terminal t)) = Unit {0}
HasRow count (Some (Nonterminal a)) = a < count

-- a set that has those of which P holds, and what it had
pub record Gains (P : ℕ → Type 0) (before after : List Bool) : Type 0 where
  pub len : length after ≡ length before
  pub each : (i : ℕ) → Has after i ↔ (Has before i ⊎ P i)

-- and a list that does
abbrev pub Adds : (ℕ → Type 0) → List ℕ → List ℕ → Type 0
Adds P before after = (i : ℕ) → Contains after i ↔ (Contains before i ⊎ P i)

-- one of the first k numbers of a list gives i, or one of all
abbrev pub IsByFirst : (ℕ → ℕ → Type 0) → List ℕ → ℕ → ℕ → Type 0
IsByFirst Each list k i = (q : ℕ) × (q < k) × Each (slice_index_or list q 0) i

abbrev pub IsByMember : (ℕ → ℕ → Type 0) → List ℕ → ℕ → Type 0
IsByMember Each list i = (j : ℕ) × Contains list j × Each j i

-- item j gives itself, and the items that it brings
abbrev pub Gives : List Rule → ℕ → ℕ → Type 0
Gives rules j i = (j ≡ i) ⊎ Brings rules j i

-- the item behind item j, whose dot passed symbol x
abbrev pub Advances : List Rule → Symbol → ℕ → ℕ → Type 0
Advances rules x j i = HasNext rules j x × (j + 1 ≡ i)
