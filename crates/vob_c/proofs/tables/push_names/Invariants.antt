-- The names so far.
use Rattle.vob_c.specs.Tables.{AreNamed}
use Rattle.vob_c.proofs.tables.push_names.Given as goal

abbrev pub invariant-loop-name : goal.invariant-loop-name
invariant-loop-name l = AreNamed l.offsets.items l.bytes.items
