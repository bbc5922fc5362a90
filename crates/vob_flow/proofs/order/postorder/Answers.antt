-- One set more was seen.
use Rattle.std.proofs.Common.{◌≡◌, true, length, inl, inr, sym, ap, ◌∙◌, subst, arith}
use Rattle.std.proofs.lemmas.Bool.{cases_eq}
use Rattle.vob_block.specs.Packing.{item}
use Rattle.vob_flow.specs.Order.{root_of}
use Rattle.vob_flow.proofs.OrderLemmas.{IsVisited-none, IsOrder-whole, root_inside, root_of-root_of}
use Rattle.vob_flow.proofs.SearchLemmas.{IsSearched-none}
use Rattle.vob_flow.proofs.order.postorder.Goals as goal

pub loop-step-init : goal.loop-step-init
loop-step-init c = rw (c.in_ok-seen.ensures.bits, c.in_ok-order.ensures.items, c.nodes-count.ensures.count) record {
  visited = IsVisited-none _;
  searched = IsSearched-none _ _;
  empty = c.in_ok-stack.ensures.items;
  roots = λ k less. absurd (omega (arith, less));
}

pub loop-step-preserved : goal.loop-step-preserved
loop-step-preserved c =
    let last = c.flows_up-from_last.result in
    let n = length c.args.graph.now in
    record {
      visited = c.in_ok-order_from.ensures.visited;
      searched = c.in_ok-order_from.ensures.searched;
      empty = c.in_ok-order_from.ensures.empty;
      roots = λ k less. elim (cases_eq k c.loop-step.step) [
        | inl here ↦ subst (λ j. item c.order_from.new.seen.bits j ≡ true)
            (c.root_at-root.ensures.root ∙ ap (λ m. root_of last m c.loop-step.step) c.nodes-count.ensures.count
            ∙ ap (root_of last n) (sym here))
            c.in_ok-order_from.ensures.root
        | inr other ↦ c.in_ok-order_from.ensures.seen _
            (c.loop-step.invariant.roots k (omega (arith, less, other)))
      ];
    }

pub returns-clause-each_once : goal.returns-clause-each_once
returns-clause-each_once c =
    let last = c.flows_up-from_last.result in
    let n = length c.args.graph.now in
    IsOrder-whole c.loop-step.invariant.visited
    (λ k less. subst (λ j. item c.loop-step.seen.bits j ≡ true) (root_of-root_of last n k less)
    (c.loop-step.invariant.roots (root_of last n k) (omega (arith, root_inside last n k less))))
