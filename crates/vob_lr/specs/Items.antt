-- The items of a grammar, each a rule with a dot on its right side, and their numbers.
use Rattle.std.specs.Prelude.{◌≡◌, ℕ, ◌+◌, ◌≤◌, List, length, take, sum_by, slice_get, Some}
use Rattle.vob_lr.specs.declared.grammar.Rule.{Rule}
use Rattle.vob_lr.specs.declared.grammar.Symbol.{Symbol}
use Rattle.vob_lr.specs.declared.items.Item.{Item}

-- how many items a rule has: one with the dot before each symbol, and one with it behind all
abbrev pub item_count : Rule → ℕ
item_count rule = length rule.right.items + 1

-- the number of rule r's first item: as many as the rules before it have items
abbrev pub first_item : List Rule → ℕ → ℕ
first_item rules r = sum_by item_count (take r rules)

-- how many items all rules have
abbrev pub item_total : List Rule → ℕ
item_total rules = sum_by item_count rules

-- i is the number of an item
pub record IsItem (rules : List Rule) (i : ℕ) (item : Item) : Type 0 where
  pub rule : Rule
  pub is : slice_get rules item.rule ≡ Some rule
  pub dot : item.dot ≤ length rule.right.items
  pub number : first_item rules item.rule + item.dot ≡ i

-- item i is rule r with the dot behind all
pub record Completes (rules : List Rule) (r i : ℕ) : Type 0 where
  pub item : Item
  pub is : IsItem rules i item
  pub rule : item.rule ≡ r
  pub dot : item.dot ≡ length is.rule.right.items

-- symbol x stands behind the dot of the item with number i
pub record HasNext (rules : List Rule) (i : ℕ) (x : Symbol) : Type 0 where
  pub item : Item
  pub is : IsItem rules i item
  pub next : slice_get is.rule.right.items item.dot ≡ Some x

-- the item with the next number has the dot behind that symbol
abbrev pub NextItemIsBehind : Type 0
NextItemIsBehind = (rules : List Rule) (i : ℕ) (x : Symbol) (h : HasNext rules i x) →
    IsItem rules (i + 1) (record { rule = h.item.rule; dot = h.item.dot + 1 })
