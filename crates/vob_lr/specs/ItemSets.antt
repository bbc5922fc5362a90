-- Sets of items, each the numbers of its items in rising order: their closures, and what is left of them when
-- the dot passes a symbol.
use Rattle.std.specs.Prelude.{◌≡◌, ℕ, ◌+◌, List, [], slice_get, slice_index_or, Contains, Some}
use Rattle.vob_lr.specs.Items.{Completes, HasNext, first_item}
use Rattle.vob_lr.specs.Those.{AreThose}
use Rattle.vob_lr.specs.declared.grammar.Rule.{Rule}
use Rattle.vob_lr.specs.declared.grammar.Symbol.{Symbol}
use Rattle.vob_lr.specs.declared.grammar.Symbol.TheVariants.{Nonterminal}

-- set q has the item with number i
abbrev pub HasItem : List (List ℕ) → ℕ → ℕ → Type 0
HasItem sets q i = Contains (slice_index_or sets q []) i

-- i is the number of the first item of a rule of nonterminal a
abbrev pub Opens : List Rule → ℕ → ℕ → Type 0
Opens rules a i =
    (r : ℕ) × (rule : Rule) × (slice_get rules r ≡ Some rule) × (rule.left ≡ a)
    × (first_item rules r ≡ i)

-- item i is in the closure of some items: it is one of them, or the first item of a rule whose left
-- side stands behind the dot of an item in the closure
pub data InClosure (rules : List Rule) (Start : ℕ → Type 0) : ℕ → Type 0 where
  inside : {i : ℕ} → Start i → InClosure rules Start i
  expands : {i j a : ℕ} → InClosure rules Start j → HasNext rules j (Nonterminal a) →
      Opens rules a i → InClosure rules Start i

-- item i is one of a set after its dot passed symbol x
abbrev pub IsAdvanced : List Rule → List ℕ → Symbol → ℕ → Type 0
IsAdvanced rules set x i = (j : ℕ) × Contains set j × HasNext rules j x × (j + 1 ≡ i)

-- the closure of a set
abbrev pub IsItemClosure : List Rule → List ℕ → List ℕ → Type 0
IsItemClosure rules set closure = AreThose (InClosure rules (Contains set)) closure

-- and the closure of its items whose dot passed symbol x
abbrev pub IsGoto : List Rule → List ℕ → Symbol → List ℕ → Type 0
IsGoto rules set x next = AreThose (InClosure rules (IsAdvanced rules set x)) next

-- a set has the complete item of rule r
abbrev pub HasComplete : List Rule → List ℕ → ℕ → Type 0
HasComplete rules set r = (i : ℕ) × Completes rules r i × Contains set i
