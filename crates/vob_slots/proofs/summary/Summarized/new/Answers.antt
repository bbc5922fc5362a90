-- No bit is set, and no word is full.
use Rattle.std.proofs.Common.{◌∙◌}
use Rattle.vob_slots.proofs.SummaryLemmas.{summary_none, words_is}
use Rattle.vob_slots.proofs.summary.Summarized.new.Goals as goal

pub invariant_of-result : goal.invariant_of-result
invariant_of-result c =
    let first = c.div_ceil-first.result in
    let n = c.div_ceil-first.ensures ∙ words_is c.args.count in
    rw (c.in_ok-from_elem.ensures.bits, c.in_ok-from_elem-2.ensures.bits, c.in_ok-from_elem-3.ensures.bits) (
      summary_none c.args.count first n,
      summary_none first c.div_ceil.result (c.div_ceil.ensures ∙ words_is first),
    )
