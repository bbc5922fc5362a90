-- The bits that were there stay in their words, and others come behind them.
use Rattle.std.proofs.Common.{◌≡◌, ◌≤◌, ◌+◌, ◌-◌, ◌/◌, ◌∙◌, ◌++◌, ap, arith, false, inl, inr, length, replicate}
use Rattle.vob_slots.proofs.SummaryLemmas.{resized, resized_long, resized_same, summary_changed, summary_grown}
use Rattle.vob_slots.proofs.summary.Summarized.grow.Goals as goal

pub renew-requires-clause-others : goal.renew-requires-clause-others
renew-requires-clause-others c =
    let bits = c.self.inside.bits.bits in
    let after = c.resize-3.new.self.bits in
    let full = c.self.inside.full.bits in
    let more = c.resize.new.self.bits in
    let end = c.len-len.result + c.args.more in
    let first = (end - 1) / 64 + 1 in
    let len = c.len-len.ensures.len in
    let le : length bits ≤ end = omega (arith, len) in
    let few : length full ≤ first = omega (arith, c.self.invariant.0.long, len) in
    let grown = c.in_ok-resize-3.ensures.ok in
    let wider = rw c.in_ok-full.ensures.bits at c.in_ok-resize.ensures.ok in
    let long = resized_long bits after end le grown in
    let need = resized_long full more first few wider in
    summary_grown bits after full more (omega (arith, long, le)) (resized_same bits after end le grown)
    (omega (arith, need, long, c.if-more-eq0.false)) (resized_same full more first few wider) c.self.invariant.0
    (c.len-len.result / 64) first (omega (arith, len)) (omega (arith, need))

pub renew-requires-2-clause-others : goal.renew-requires-2-clause-others
renew-requires-2-clause-others c =
    let full = c.self.inside.full.bits in
    let more = c.resize.new.self.bits in
    let fuller = c.self.inside.fuller.bits in
    let most = c.resize-2.new.self.bits in
    let end = c.len-len.result + c.args.more in
    let first = (end - 1) / 64 + 1 in
    let second = (first - 1) / 64 + 1 in
    let len = c.len-len.ensures.len in
    let h = c.self.invariant in
    let few : length full ≤ first = omega (arith, h.0.long, len) in
    let least : length fuller ≤ second = omega (arith, h.1.long, few) in
    let wider = rw c.in_ok-full.ensures.bits at c.in_ok-resize.ensures.ok in
    let widest = rw c.in_ok-fuller.ensures.bits at c.in_ok-resize-2.ensures.ok in
    let long = resized_long full more first few wider in
    let need = resized_long fuller most second least widest in
    let whole = resized_long c.self.inside.bits.bits c.resize-3.new.self.bits end (omega (arith, len))
    c.in_ok-resize-3.ensures.ok in
    summary_changed (c.len-len.result / 64) (first - 1) more c.renew.new.full.bits most
    (omega (arith, c.renew.ensures.summary.long, whole, long, c.if-more-eq0.false))
    (λ i side. c.renew.ensures.others i (elim side [
      | inl before ↦ inl before
      | inr past ↦ inr (omega (arith, past))
    ]))
    (summary_grown full more fuller most (omega (arith, long, few)) (resized_same full more first few wider)
    (omega (arith, need, long)) (resized_same fuller most second least widest) h.1
    (c.len-len.result / 64 / 64) second (omega (arith, len, h.0.long)) (omega (arith, need)))

pub returns-clause-ok : goal.returns-clause-ok
returns-clause-ok c =
    let bits = c.self.inside.bits.bits in
    let end = c.len-len.result + c.args.more in
    let len = c.len-len.ensures.len in
    let count : end - length bits ≡ c.args.more = omega (arith, len) in
    resized bits _ end (omega (arith, len)) c.in_ok-resize-3.ensures.ok
    ∙ ap (λ n. bits ++ replicate n false) count
    ∙ ap (λ l. l ++ replicate c.args.more false) c.self.view_is
