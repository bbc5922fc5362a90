-- The nodes so far aren't seen any more.
use Rattle.std.proofs.Common.{◌≡◌, ◌≢◌, ℕ, ◌<◌, true, get_or, length}
use Rattle.vob_block.specs.Packing.{item}
use Rattle.files_graph.proofs.direct.clear.Given as goal

abbrev pub invariant-loop-k : goal.invariant-loop-k
invariant-loop-k l = record {
  seen_long : length l.search.seen.bits ≡ length l.fn.search.seen.bits;
  gone : (x : ℕ) → item l.search.seen.bits x ≡ true → (item l.fn.search.seen.bits x ≡ true)
      × ((j : ℕ) → j < l.k → get_or l.fn.search.found.items j 0 ≢ x);
  found : l.search.found.items ≡ l.fn.search.found.items;
  missing : l.search.missing.bits ≡ l.fn.search.missing.bits;
  left : l.search.left ≡ l.fn.search.left;
}
