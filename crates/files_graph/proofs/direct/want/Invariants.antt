-- The ends so far are missing.
use Rattle.std.proofs.Common.{◌≡◌, ◌↔◌, ℕ, ◌≤◌, true, length, take}
use Rattle.std.specs.List.{Contains}
use Rattle.vob_block.specs.Packing.{item}
use Rattle.vob.specs.Bits.{count_of}
use Rattle.files_graph.proofs.direct.want.Given as goal

abbrev pub invariant-loop-end : goal.invariant-loop-end
invariant-loop-end l = record {
  seen : l.search.seen.bits ≡ l.fn.search.seen.bits;
  found : l.search.found.items ≡ l.fn.search.found.items;
  followed : l.search.followed ≡ l.fn.search.followed;
  missing_long : length l.search.missing.bits ≡ length l.fn.search.missing.bits;
  missing : (t : ℕ) → (item l.search.missing.bits t ≡ true) ↔ Contains (take l.end-index l.ends) t;
  left : l.search.left ≡ count_of true l.search.missing.bits;
  lowest : (t : ℕ) → Contains (take l.end-index l.ends) t → l.lowest ≤ t;
}
