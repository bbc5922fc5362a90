-- The sets so far were seen, and are in the order.
use Rattle.std.proofs.Common.{◌≡◌, ◌<◌, ℕ, [], true, length}
use Rattle.vob_block.specs.Packing.{item}
use Rattle.vob_flow.specs.Order.{IsSearched, IsVisited, root_of}
use Rattle.vob_flow.proofs.order.postorder.Given as goal

abbrev pub invariant-loop-step : goal.invariant-loop-step
invariant-loop-step l =
    record {
      visited : IsVisited (length l.graph) l.seen.bits [] l.order.items;
      searched : IsSearched l.graph l.seen.bits [] l.order.items;
      empty : l.stack.items ≡ [];
      roots : (k : ℕ) → k < l.step →
          item l.seen.bits (root_of l.from_last (length l.graph) k) ≡ true;
    }
