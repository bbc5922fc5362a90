-- A mark is next.
use Rattle.files_dot.proofs.TokenLemmas.{takes_mark}
use Rattle.files_dot.proofs.scanner.Scanner.take_word.Goals as goal

pub returns-in-Some-clause-ok : goal.returns-in-Some-clause-ok
returns-in-Some-clause-ok c =
    takes_mark c.mark_length.result c.requires.some c.pass.ensures.place c.pass.ensures.rest c.byte_at-first.result
    c.byte_at.result c.in-Some.mark c.in-Some.ensures c.byte_at-first.ensures.value c.byte_at.ensures.value
    c.mark_length.ensures
