-- The set has the lookaheads.
use Rattle.std.proofs.Common.{refl}
use Rattle.vob_lr.specs.Lookaheads.{LooksAhead}
use Rattle.files_text.specs.Printed.{members}
use Rattle.files_grammar.proofs.SetTextLemmas.{members_those}
use Rattle.files_grammar.proofs.state_text.put_ahead.Goals as goal

pub returns : goal.returns
returns g c = (
  _,
  c.in_ok-put_bracketed.ensures,
  (
    members c.in-Some.set,
    members_those (λ t. LooksAhead c.args.states.now t c.args.state c.args.number) c.in-Some.set
        c.in-Some.ensures.some.each,
    refl,
  ),
)
