-- The sets are states, so they rise.
use Rattle.std.proofs.Common.{ℕ, subst}
use Rattle.std.proofs.lemmas.List.{length-map}
use Rattle.vob_flow.specs.Lists.{lists_of}
use Rattle.vob_lr.specs.Nodes.{AreOffsets}
use Rattle.vob_lr.proofs.StateLemmas.{AreRising-states}
use Rattle.vob_lr.proofs.lookaheads.Lookaheads.of.Goals as goal

pub invariant_of-nodes : goal.invariant_of-nodes
invariant_of-nodes c =
    let h = c.self.invariant in
    let sets = c.self.inside.automaton.sets.items in
    rw (c.deref.ensures.value, c.deref-2.ensures.value) (
      AreRising-states c.self.inside.items.rules.items (lists_of sets) h.states.each,
      subst (λ (n : ℕ). AreOffsets (lists_of sets) n c.self.inside.offsets.items)
          (length-map sets (λ v. v.items)) h.offsets_of,
    )
