-- One node more was reached.
use Rattle.std.proofs.Common.{◌∙◌, ◌<◌, List, ℕ, get_or, length, refl, sym, subst, arith}
use Rattle.std.proofs.lemmas.List.{take_all}
use Rattle.vob_flow.specs.Reach.{HaveEntered}
use Rattle.vob_flow.proofs.ReachLemmas.{HaveEntered-new, HaveEntered-none, HaveEntered-old, was_off, was_on}
use Rattle.vob_flow.proofs.paths.enter_all.Goals as goal
use Rattle.vob_flow.proofs.paths.enter_all.Goals.{then-set+in_ok-push, else-set}

pub loop-node-init : goal.loop-node-init
loop-node-init c =
    HaveEntered-none c.args.nodes.now c.args.reached.now.bits c.args.waiting.now.items

pub set-requires : goal.set-requires
set-requires c =
    let low : get_or c.args.nodes.now c.loop-node.node-index 0 < length c.args.reached.now.bits =
    c.requires c.loop-node.node-index 0 c.loop-node-test.true in
    record { in_range = omega (arith, low, c.loop-node.invariant.len) }

pub loop-node-preserved : goal.loop-node-preserved
loop-node-preserved c = elim c.if-set.branch [
  | then-set+in_ok-push w ↦
      rw (w.waiting-is, w.in_ok-push.ensures.items)
      (HaveEntered-new c.args.nodes.now c.args.reached.now.bits c.args.waiting.now.items
      c.loop-node.reached.bits c.loop-node.waiting.items c.loop-node.node-index _
      c.loop-node-test.true refl c.loop-node.invariant c.set.new.self.bits
      (was_off _ (sym c.set.ensures.differs ∙ w.if-set.true)) c.set.ensures.written)
  | else-set w ↦
      rw (w.waiting-is, c.set.ensures.same w.if-set.false)
      (HaveEntered-old c.args.nodes.now c.args.reached.now.bits c.args.waiting.now.items
      c.loop-node.reached.bits c.loop-node.waiting.items c.loop-node.node-index _
      c.loop-node-test.true refl c.loop-node.invariant
      (was_on _ (sym c.set.ensures.differs ∙ w.if-set.false)))
]

pub returns : goal.returns
returns c =
    subst (λ (nodes : List ℕ). HaveEntered nodes c.args.reached.now.bits c.args.waiting.now.items
    c.loop-node.reached.bits c.loop-node.waiting.items)
    (take_all c.loop-node.node-index c.args.nodes.now (omega arith)) c.loop-node.invariant
