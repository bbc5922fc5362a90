-- The block of the step that found one.
use Rattle.vob_walk.proofs.SkipLemmas.{Scans-none, Scans-some, none_found}
use Rattle.vob_walk.proofs.skip.next_other.Goals as goal

pub returns-in_default : goal.returns-in_default
returns-in_default g c =
    let span = c.args.span in
    Scans-none span.side span.start span.end
    (rw (none_found _ c.in_default.not-Some) at c.first_other.ensures)

pub returns : goal.returns
returns g c =
    let span = c.args.span in
    Scans-some span.side span.start span.end _ _ _ (rw c.in-Some.is at c.first_other.ensures)
