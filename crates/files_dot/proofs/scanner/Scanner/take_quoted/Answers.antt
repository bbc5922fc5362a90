-- No quote is next, or none closes the string.
use Rattle.std.proofs.Common.{◌∙◌, inr, sym}
use Rattle.std.specs.Prelude.{codes}
use Rattle.files_dot.specs.Tokens.IsNoString.{no_quote, unclosed}
use Rattle.files_dot.proofs.TokenLemmas.{no_quote_in, tail_is}
use Rattle.files_dot.proofs.scanner.Scanner.take_quoted.Goals as goal

pub returns-then-byte_at-ne34-clause-err : goal.returns-then-byte_at-ne34-clause-err
returns-then-byte_at-ne34-clause-err c = inr (
  codes "a string in double quotes, to be joined",
  no_quote (λ is. c.if-byte_at-ne34.true (c.byte_at.ensures.value ∙ is)),
  c.unexpected.ensures,
)

pub returns-in-None-clause-err : goal.returns-in-None-clause-err
returns-in-None-clause-err c = inr (
  codes "a string with its closing `\"`",
  unclosed (sym c.byte_at.ensures.value ∙ c.if-byte_at-ne34.false)
      (no_quote_in c.args.self.now.rest.now c.in_ok-inside.field-0 _ (tail_is 1 c.args.self.now.rest.now)
      c.in-None.is c.in_ok-inside.ensures.none),
  c.unexpected-in-None.ensures,
)
