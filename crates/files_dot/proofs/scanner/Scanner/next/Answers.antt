-- The word behind white space and comments is next.
use Rattle.std.proofs.Common.{arith}
use Rattle.files_dot.specs.Tokens.AreTokens.{after_blanks, no_token}
use Rattle.files_dot.proofs.TokenLemmas.{empty_is}
use Rattle.files_dot.proofs.scanner.Scanner.next.Goals as goal

pub returns-then-is_empty-clause-ok : goal.returns-then-is_empty-clause-ok
returns-then-is_empty-clause-ok c = (
  after_blanks c.pass_blanks.ensures.blanks no_token,
  empty_is c.pass_blanks.new.self.rest.now c.if-is_empty.ensures,
)

pub returns-clause-ok : goal.returns-clause-ok
returns-clause-ok c = (
  after_blanks c.pass_blanks.ensures.blanks c.in_ok-word.ensures.ok.are_tokens,
  omega (arith, c.in_ok-word.ensures.ok.shorter, c.pass_blanks.ensures.shorter),
)
