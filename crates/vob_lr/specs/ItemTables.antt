-- What the tables of a grammar's items have. No public clause cites this page.
use Rattle.std.specs.Prelude.{◌≡◌, ℕ, ◌<◌, List, length, slice_index_or}
use Rattle.vob_lr.specs.declared.grammar.Grammar.{Grammar}
use Rattle.vob_lr.specs.declared.grammar.Rule.{Rule}
use Rattle.vob_lr.specs.declared.items.Item.{Item}
use Rattle.vob_lr.specs.Items.{IsItem, first_item, item_total}

-- so many items, each at its number
pub record AreItems (rules : List Rule) (count : ℕ) (items : List Item) : Type 0 where
  pub total : length items ≡ count
  pub each : (i : ℕ) (d : Item) → i < length items → IsItem rules i (slice_index_or items i d)

-- the numbers of the first items of so many rules
pub record AreFirsts (rules : List Rule) (count : ℕ) (firsts : List ℕ) : Type 0 where
  pub total : length firsts ≡ count
  pub each : (r d : ℕ) → r < length firsts → slice_index_or firsts r d ≡ first_item rules r

-- all items, and the number of each rule's first
pub record AreTables (grammar : Grammar) (items : List Item) (firsts : List ℕ) : Type 0 where
  pub numbers : AreItems grammar.rules.items (item_total grammar.rules.items) items
  pub starts : AreFirsts grammar.rules.items (length grammar.rules.items) firsts
