-- The last word is that of the list.
use Rattle.std.proofs.Common.{ap, ℕ, ◌∙◌}
use Rattle.files_parse.proofs.ParseLemmas.{end_at}
use Rattle.files_parse.proofs.parse.end_of.Goals as goal

pub returns-in-Some : goal.returns-in-Some
returns-in-Some c =
    ap (λ (n : ℕ). (c.in-Some.word.now.line, n)) c.end.ensures
    ∙ end_at c.args.words.now c.in-Some.word.now c.in-Some.ensures.value
