-- The words are tested first, and then the range.
use Rattle.std.proofs.Common.{◌∙◌, sym}
use Rattle.std.proofs.lemmas.Bool.{false≢true}
use Rattle.vob_c.proofs.StatusLemmas.{tells_inside, tells_range}
use Rattle.vob_c.proofs.status.status_within.Goals as goal

pub returns-then-status-ne-OK : goal.returns-then-status-ne-OK
returns-then-status-ne-OK c = tells_inside c.status_of-status.ensures
    (λ e. absurd (c.if-status-ne-OK.true e))

pub returns-then-inside : goal.returns-then-inside
returns-then-inside c =
    tells_inside (rw c.if-status-ne-OK.false at c.status_of-status.ensures) (λ _. c.if-inside.true)

pub returns-else-inside : goal.returns-else-inside
returns-else-inside c =
    let both = c.status_of-status.ensures.ok.0 c.if-status-ne-OK.false in
    tells_range both.0 both.1 (λ held. false≢true (sym c.if-inside.false ∙ held))
