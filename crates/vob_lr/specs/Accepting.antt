-- In which states a parser accepts.
use Rattle.std.specs.Prelude.{◌≡◌, ℕ, [], slice_index_or, Some}
use Rattle.vob_lr.specs.ItemSets.{HasComplete}
use Rattle.vob_lr.specs.Tables.{TableView, chosen_at}
use Rattle.vob_lr.specs.declared.table.Action.TheVariants.{Shift}

-- terminal t is the end, and would be shifted in state q into a state that has rule 0 with its dot behind all
pub record Accepts (table : TableView) (q t : ℕ) : Type 0 where
  pub is_end : t ≡ 0
  pub state : ℕ
  pub shifts : chosen_at table.cells q t ≡ Some (Shift state)
  pub completes : HasComplete table.machine.grammar.rules.items
      (slice_index_or table.machine.sets state []) 0
