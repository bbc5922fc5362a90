-- Each run so far was too short, so that no room begins below the end of the last one.
use Rattle.std.proofs.Common.{◌≡◌, map, not}
use Rattle.vob_block.specs.Packing.{unpacking}
use Rattle.vob.proofs.RoomLemmas.{IsBelowRoom}
use Rattle.vob_c.proofs.search.room_or_end.Given as goal

abbrev pub invariant-loop-run : goal.invariant-loop-run
invariant-loop-run l = record {
  can_next : goal.iterator-loop-run.can_next l.run-iterator;
  is_finite : goal.iterator-loop-run.is_finite l.run-iterator;
  bits : l.run-iterator.bits ≡ map not (unpacking l.bits l.words 64);
  passed : IsBelowRoom l.count (unpacking l.bits l.words 64) l.run-iterator.at;
}
