-- A move leads on, or none does.
use Rattle.std.proofs.Common.{◌∙◌, refl, sym}
use Rattle.std.proofs.lemmas.Bool.{false≢true}
use Rattle.std.proofs.lemmas.Option.{none-some}
use Rattle.files_grammar.proofs.conflicts.can_shift.Goals as goal

pub returns-in_default : goal.returns-in_default
returns-in_default c = (
  (λ yes. absurd (false≢true yes)),
  (λ (p, move). absurd (none-some p (sym c.in_default.is ∙ (c.next.ensures p).1 move))),
)

pub returns : goal.returns
returns c = ((λ yes. (_, (c.next.ensures _).0 c.in-Some.is)), (λ can. refl))
