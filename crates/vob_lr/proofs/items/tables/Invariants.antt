-- The items of the rules so far, and the first of each.
use Rattle.vob_lr.specs.ItemTables.{AreFirsts, AreItems}
use Rattle.vob_lr.specs.Items.{first_item}
use Rattle.vob_lr.proofs.items.tables.Given as goal

abbrev pub invariant-loop-rule : goal.invariant-loop-rule
invariant-loop-rule l = record {
  items : AreItems l.rules (first_item l.rules l.rule) l.items.items;
  firsts : AreFirsts l.rules l.rule l.firsts.items;
}
