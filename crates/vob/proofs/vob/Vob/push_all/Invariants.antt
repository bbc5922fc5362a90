-- The items so far are added.
use Rattle.std.proofs.Common.{◌≡◌, ◌≤◌, ◌++◌, Bool, List}
use Rattle.std.specs.Iterator.{Yields, size}
use Rattle.vob_store.specs.Gathering.{GoesOn}
use Rattle.vob.proofs.vob.Vob.push_all.Given as goal

abbrev pub invariant-turns : goal.invariant-turns
invariant-turns g l = record {
  added : (bits : List Bool) × Yields g.I.Iterator.next_gives l.fn.items bits l.items
      × (l.self.bits ≡ l.fn.self.bits ++ bits);
  goes_on : GoesOn g.I.Iterator.can_next g.I.Iterator.remaining l.fn.items l.items;
  capacity : l.fn.self.capacity ≤ l.self.capacity;
}

abbrev pub decreases-turns : goal.decreases-turns
decreases-turns g l = size (g.I.Iterator.remaining l.items)
