-- Whether both have the same bits is told.
use Rattle.std.proofs.Common.{refl, inl, ◌∙◌}
use Rattle.vob_run.proofs.PairLemmas.{both_lent, on_two-found, on_two-missing}
use Rattle.vob_run.proofs.calls.pair.equal.Goals as goal

pub returns-then-not-are_two : goal.returns-then-not-are_two
returns-then-not-are_two g c =
    inl (on_two-missing c.args.vobs.now c.args.which c.args.other
    (λ t. let wrong = c.if-not-are_two.ensures.1 t in cc) _)

pub returns : goal.returns
returns g c =
    let items = c.args.vobs.now in
    let old = c.index-vobs-which.result in
    let more = c.index-vobs-other.result in
    let can = c.if-not-are_two.ensures.0 refl in
    let two = both_lent items c.args.which c.args.other old more can c.index-vobs-which.is
    c.index-vobs-other.is in
    inl (on_two-found two _ ∙ rw c.eq.ensures.answer refl)
