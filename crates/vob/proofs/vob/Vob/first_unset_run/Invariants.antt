-- Each run so far was too short, so that no room begins below the end of the last one.
use Rattle.std.proofs.Common.{◌≡◌, map, not}
use Rattle.vob.proofs.RoomLemmas.{IsBelowRoom}
use Rattle.vob.proofs.vob.Vob.first_unset_run.Given as goal

abbrev pub invariant-loop-run : goal.invariant-loop-run
invariant-loop-run g l = record {
  can_next : (goal.iterator-loop-run g).can_next l.run-iterator;
  is_finite : (goal.iterator-loop-run g).is_finite l.run-iterator;
  bits : l.run-iterator.bits ≡ map not l.self.bits;
  passed : IsBelowRoom l.n l.self.bits l.run-iterator.at;
}
