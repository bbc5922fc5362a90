-- What is passed is white space or a comment.
use Rattle.std.proofs.Common.{arith}
use Rattle.files_dot.proofs.TokenLemmas.{blank_before}
use Rattle.files_dot.proofs.scanner.Scanner.pass_blank.Goals as goal

pub returns-then-count-eq0-clause-none : goal.returns-then-count-eq0-clause-none
returns-then-count-eq0-clause-none c = c.blank_length-count.ensures.none c.if-count-eq0.true

pub returns-clause-passed : goal.returns-clause-passed
returns-clause-passed c to rest are =
    blank_before c.blank_length-count.result
    (c.blank_length-count.ensures.blank (omega (arith, c.if-count-eq0.false)))
    c.pass.ensures.place c.pass.ensures.rest are
