-- The runs of the slots that neither calendar has booked.
use Rattle.std.proofs.Common.{ap, arith, length, not, refl, sym, subst, ◌∙◌, ◌||◌}
use Rattle.std.proofs.lemmas.Result.{IfOk-weaker}
use Rattle.vob_block.specs.Packing.{item}
use Rattle.vob_walk.specs.Runs.{runs_of}
use Rattle.vob_slots.specs.Calendar.{AreCommon}
use Rattle.vob_slots.proofs.CalendarLemmas.{AreCommon-long_runs}
use Rattle.vob_slots.proofs.calendar.common_stretches.Goals as goal

pub returns : goal.returns
returns c =
    let first = c.args.first.now in
    let second = c.args.second.now in
    let free = c.negate.new.self.bits in
    let copied = c.in_ok-free.ensures.bits ∙ c.first.view_is in
    let other = c.second.view_is in
    let either = c.or.ensures.each in
    let negated = c.negate.ensures.each in
    let same = ap length copied in
    let is = AreCommon-long_runs first second free c.requires
    (omega (arith, negated.len, either.len, same))
    (λ i below. negated.each i (omega (arith, either.len, same)) ∙ ap not (either.each i)
    ∙ ap (λ bits. not (item bits i || item c.second.inside.booked.bits i)) copied
    ∙ ap (λ bits. not (item first i || item bits i)) other)
    c.args.least ((c.runs_are_maximal.ensures free (runs_of free)).0 refl) in
    IfOk-weaker c.long_runs.result _ _
    (λ runs e. subst (AreCommon first second c.args.least) (sym e) is) c.long_runs.ensures
