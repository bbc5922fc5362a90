-- The definitions so far were added.
use Rattle.std.proofs.Common.{◌≡◌, ◌++◌, take}
use Rattle.files_flow.specs.Definitions.{definitions_at}
use Rattle.files_flow.proofs.definitions.add_writes.Given as goal

abbrev pub invariant-loop-variable : goal.invariant-loop-variable
invariant-loop-variable l =
    l.definitions.items ≡ l.fn.definitions.items ++ definitions_at l.node (take l.variable-index l.writes)
