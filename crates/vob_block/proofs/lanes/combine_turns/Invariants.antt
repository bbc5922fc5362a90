-- The turns so far are combined, and each of their blocks was read once.
use Rattle.std.proofs.Common.{◌≡◌, ◌*◌, ◌+◌, bit_or}
use lib.Lanes.{fold_l}
use Rattle.vob_block.specs.Kernel.{Takes}
use Rattle.vob_block.proofs.lanes.combine_turns.Given as goal

abbrev pub invariant-loop-i : goal.invariant-loop-i
invariant-loop-i g l = record {
  taken : Takes 64 g.C.Combine.of_bits l.fn.other.items l.fn.own l.own 0 (16 * l.i) 0
      (fold_l bit_or 0 l.changed);
  items : l.other.items ≡ l.fn.other.items;
  reads : l.other.reads ≡ l.fn.other.reads + 16 * l.i;
}
