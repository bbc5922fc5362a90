-- The nodes so far have no edges.
use Rattle.std.proofs.Common.{◌≡◌, ◌-◌, length}
use Rattle.files_graph.specs.ClosureText.{edges_of}
use Rattle.files_graph.proofs.closure.first_edge.Given as goal

abbrev pub invariant-loop-from : goal.invariant-loop-from
invariant-loop-from l =
    edges_of l.sets.rows 0 (length l.sets.rows) ≡ edges_of l.sets.rows l.from (length l.sets.rows - l.from)
