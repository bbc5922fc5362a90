-- The nodes so far gave the ends of their edges.
use Rattle.std.proofs.Common.{◌≡◌, ◌-◌, ℕ, ◌≤◌, true, List, length}
use Rattle.vob_block.specs.Packing.{item}
use Rattle.files_graph.specs.Direct.{IsFrom, IsSearch}
use Rattle.files_graph.proofs.direct.follow.Given as goal

abbrev pub invariant-turns : goal.invariant-turns
invariant-turns l = record {
  search : IsSearch (length l.links) l.search;
  fewer : l.search.left ≤ l.fn.search.left;
  kept : (x : ℕ) → item l.fn.search.seen.bits x ≡ true → item l.search.seen.bits x ≡ true;
  from : (ends starts : List ℕ) → IsFrom l.links ends starts l.lowest l.fn.search →
      IsFrom l.links ends starts l.lowest l.search;
}

abbrev pub decreases-turns : goal.decreases-turns
decreases-turns l = length l.links - l.search.followed
