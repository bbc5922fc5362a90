-- Some parenthesis is open.
use Rattle.std.proofs.Common.{ap, ◌==◌, ◌∙◌, refl}
use Rattle.files_condition.proofs.StateLemmas.{inside_is}
use Rattle.files_condition.proofs.reader.Reader.end.Goals as goal

pub returns-then-not-is_empty-clause-err : goal.returns-then-not-is_empty-clause-err
returns-then-not-is_empty-clause-err c = (
  inside_is c.args.self.outer.items (c.if-not-is_empty.ensures
      ∙ ap (λ n. n == 0) c.args.self.outer.ok.0),
  refl,
  refl,
)
