-- The bits outside the range stay, and the words outside that of the first and the last.
use Rattle.std.proofs.Common.{◌∙◌, ◌/◌, ap, arith, inl, inr, sym}
use Rattle.vob_slots.specs.Summaries.{words}
use Rattle.vob_slots.proofs.SummaryLemmas.{outside_range, summary_but, summary_changed}
use Rattle.vob_slots.proofs.summary.Summarized.set_range.Goals as goal

pub renew-requires-clause-others : goal.renew-requires-clause-others
renew-requires-clause-others c =
    let bits = c.self.inside.bits.bits in
    let full = c.self.inside.full.bits in
    summary_changed c.args.start _ bits _ full c.set_range.ensures.len
    (λ i side. (c.set_range.ensures.each tt).outside i
    (outside_range c.args.start c.args.end i (omega arith) side))
    (summary_but bits full c.self.invariant.0 _ _)

pub renew-requires-then-renew-clause-others : goal.renew-requires-then-renew-clause-others
renew-requires-then-renew-clause-others c =
    let full = c.self.inside.full.bits in
    let fuller = c.self.inside.fuller.bits in
    summary_changed (c.args.start / 64) _ full _ fuller
    (c.renew.ensures.summary.long ∙ ap words c.set_range.ensures.len ∙ sym c.self.invariant.0.long)
    (λ w side. c.renew.ensures.others w (elim side [ inl low ↦ inl low | inr past ↦ inr (omega (arith, past)) ]))
    (summary_but full fuller c.self.invariant.1 _ _)
