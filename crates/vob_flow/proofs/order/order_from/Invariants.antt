-- The sets that were seen are in the order or wait.
use Rattle.std.proofs.Common.{◌≡◌, true, length}
use Rattle.vob_block.specs.Packing.{item}
use Rattle.vob_flow.specs.Order.{IsSearched, IsVisited, SeesMore, sets_of, steps_left}
use Rattle.vob_flow.proofs.order.order_from.Given as goal

abbrev pub invariant-visits : goal.invariant-visits
invariant-visits l =
    record {
      visited : IsVisited (length l.graph) l.seen.bits (sets_of l.stack.items) l.order.items;
      searched : IsSearched l.graph l.seen.bits l.stack.items l.order.items;
      seen_more : SeesMore l.fn.seen.bits l.seen.bits;
      root : item l.seen.bits l.root ≡ true;
    }

abbrev pub decreases-visits : goal.decreases-visits
decreases-visits l = steps_left l.seen.bits (sets_of l.stack.items)
