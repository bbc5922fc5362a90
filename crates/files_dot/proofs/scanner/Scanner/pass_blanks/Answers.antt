-- Nothing else is next.
use Rattle.files_dot.proofs.TokenLemmas.{passed}
use Rattle.files_dot.proofs.scanner.Scanner.pass_blanks.Goals as goal

pub returns-clause-blanks : goal.returns-clause-blanks
returns-clause-blanks c = passed c.blanks.invariant.0 c.blanks-test.ensures.same.1 c.blanks-test.ensures.same.0
