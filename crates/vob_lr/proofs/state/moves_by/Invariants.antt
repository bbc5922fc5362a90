-- The moves by the symbols so far, and the states that they lead to.
use Rattle.std.proofs.Common.{[], length, map, slice_index_or}
use Rattle.vob_flow.specs.Lists.{lists_of}
use Rattle.vob_lr.specs.Rounds.{AreMovesBut, AreSome, Extends}
use Rattle.vob_lr.specs.States.{AreGiven}
use Rattle.vob_lr.proofs.state.moves_by.Given as goal

abbrev pub invariant-loop-number : goal.invariant-loop-number
invariant-loop-number l = record {
  can_next : (goal.iterator-loop-number).can_next l.number-iterator;
  is_finite : (goal.iterator-loop-number).is_finite l.number-iterator;
  some : AreSome l.closures.rules.items (lists_of l.sets.keys);
  more : Extends (lists_of l.fn.sets.keys) (lists_of l.sets.keys);
  given : AreGiven (length (lists_of l.fn.sets.keys)) (map (λ move. move.state) l.moves.items)
      (length (lists_of l.sets.keys));
  moves : AreMovesBut l.closures (lists_of l.sets.keys)
      (slice_index_or (lists_of l.fn.sets.keys) l.from []) l.ahead.bits l.number-iterator.rest
      l.moves.items;
}
