-- The items so far are the places of the block.
use Rattle.std.proofs.Common.{◌≡◌, Bool, List, length}
use Rattle.std.specs.Iterator.{Yields}
use Rattle.vob_block.specs.Packing.{item}
use Rattle.vob_block.specs.Places.{HasPlaces}
use Rattle.vob_store.specs.Gathering.{GoesOn}
use Rattle.vob_store.proofs.gather.gather.Given as goal

abbrev pub invariant-loop-count : goal.invariant-loop-count
invariant-loop-count g l = record {
  so_far : (bits : List Bool) × (length bits ≡ l.count)
      × Yields g.I.Iterator.next_gives l.fn.items bits l.items
      × HasPlaces g.T.BitBlock.BITS (g.T.BitBlock.number l.block) (item bits);
  goes_on : GoesOn g.I.Iterator.can_next g.I.Iterator.remaining l.fn.items l.items;
}
