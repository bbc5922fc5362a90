-- What was mentioned last is the name of an attribute.
use Rattle.std.proofs.Common.{◌≡◌, ◌∙◌, ap, arith, true}
use Rattle.std.proofs.lemmas.Grind.{common_steps}
use Rattle.files_dot.specs.Held.{names_of}
use Rattle.files_dot.specs.States.{end_of, state_of}
use Rattle.files_dot.specs.declared.reader.Next.TheVariants.{AfterEnd}
use Rattle.files_dot.proofs.HeldLemmas.{names_front}
use Rattle.files_dot.proofs.StateLemmas.{equal_held}
use Rattle.files_dot.proofs.reader.Reader.follow_end.Goals as goal

pub returns-else-not-end-clause-ok : goal.returns-else-not-end-clause-ok
returns-else-not-end-clause-ok c =
    let reader = c.args.self.now in
    let end = c.args.end in
    let may_be : end.may_be_name ≡ true = grind (arith, common_steps, c.if-not-end.false) in
    equal_held (state_of (AfterEnd end) reader) (end_of end) c.args.mark _ c.in-Equal.is may_be
    (ap names_of c.truncate.ensures.items ∙ names_front end.start reader.mentions.items)
