-- The items so far start with the terminals, and draw from the node.
use Rattle.std.proofs.Common.{◌≡◌}
use Rattle.vob_lr.specs.Behind.{IsOfTrailer}
use Rattle.vob_lr.specs.Walked.{GainWalked}
use Rattle.vob_lr.specs.Nodes.{node}
use Rattle.vob_lr.proofs.flows.Flows.open_items.Given as goal

abbrev pub invariant-loop-item : goal.invariant-loop-item
invariant-loop-item l = record {
  can_next : (goal.iterator-loop-item).can_next l.item-iterator;
  is_finite : (goal.iterator-loop-item).is_finite l.item-iterator;
  walked : GainWalked
      (λ i n y. (node l.self.sets l.state i ≡ n) × IsOfTrailer l.from l.begins.bits l.empty y)
      l.opened l.item-iterator.rest l.fn.equations l.equations;
}
