-- So many nodes were made, and each is empty.
use Rattle.std.specs.Prelude.{All}
use Rattle.std.proofs.Common.{◌≡◌, length}
use Rattle.files_flow.specs.Numbering.{IsEmpty}
use Rattle.files_flow.proofs.flow.empty_flows.Given as goal

abbrev pub invariant-loop : goal.invariant-loop
invariant-loop l = (length l.nodes.items ≡ l.counter) × All IsEmpty l.nodes.items
