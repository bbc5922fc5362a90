-- The ends so far were found, if they aren't lower.
use Rattle.std.proofs.Common.{◌≡◌, ℕ, ◌<◌, ◌≤◌, true, List, get_or, length}
use Rattle.vob_block.specs.Packing.{item}
use Rattle.files_graph.specs.Direct.{HasFoundMore, IsFrom, IsSearch}
use Rattle.files_graph.proofs.direct.find_ends.Given as goal

abbrev pub invariant-loop-end : goal.invariant-loop-end
invariant-loop-end l = record {
  search : IsSearch (length l.links) l.search;
  more : HasFoundMore l.fn.search l.search;
  from : (ends starts : List ℕ) → item l.fn.search.seen.bits l.node ≡ true →
      IsFrom l.links ends starts l.lowest l.fn.search → IsFrom l.links ends starts l.lowest l.search;
  given : (j : ℕ) → j < l.end-index → l.lowest ≤ get_or l.ends j 0 →
      item l.search.seen.bits (get_or l.ends j 0) ≡ true;
}
