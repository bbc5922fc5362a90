-- The `+` stands between white space and comments.
use Rattle.std.proofs.Common.{◌∙◌, sym}
use Rattle.files_dot.proofs.scanner.Scanner.pass_plus.Goals as goal

pub returns-clause-plus : goal.returns-clause-plus
returns-clause-plus c = record {
  at = c.pass_blanks.new.self.place;
  plus = c.pass_blanks.new.self.rest.now;
  before = c.pass_blanks.ensures.blanks;
  is_plus = sym c.byte_at.ensures.value ∙ c.if-byte_at-ne43.false;
  after = c.pass_sign.ensures.blanks;
}
