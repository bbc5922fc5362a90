-- The places below the start are solved.
use Rattle.std.proofs.Common.{◌≡◌, ◌≤◌, ◌-◌, length}
use Rattle.vob_flow.specs.Lists.{keeps, lists_of, sets_of}
use Rattle.vob_flow.specs.Parts.{AreSolvedBelow}
use Rattle.vob_flow.proofs.lists.solve_parts.Given as goal

abbrev pub decreases-parts : goal.decreases-parts
decreases-parts l = l.lists.places - l.start

abbrev pub invariant-parts : goal.invariant-parts
invariant-parts l = record {
  inside : l.start ≤ l.lists.places;
  places : length l.places.items ≡ length l.graph;
  solved : AreSolvedBelow l.graph (keeps (lists_of l.lists.by_variable.now) (lists_of l.lists.writes.now))
      (sets_of l.lists.places (lists_of l.lists.generates.now)) l.paths l.start l.near l.far;
}
