-- The items so far.
use Rattle.std.proofs.Common.{◌+◌}
use Rattle.vob_lr.specs.ItemTables.{AreItems}
use Rattle.vob_lr.specs.Items.{first_item}
use Rattle.vob_lr.proofs.items.add_items.Given as goal

abbrev pub invariant-loop-dot : goal.invariant-loop-dot
invariant-loop-dot l = AreItems l.rules (first_item l.rules l.rule + l.dot) l.items.items
