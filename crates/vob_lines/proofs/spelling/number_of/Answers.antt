-- Digits are text.
use Rattle.std.proofs.Common.{refl}
use Rattle.std.proofs.lemmas.Fmt.{IsAscii-from_digits}
use Rattle.std.proofs.lemmas.Str.{IsUtf8-from_ascii}
use Rattle.vob_lines.proofs.spelling.number_of.Goals as goal

pub returns-in_default-clause-err : goal.returns-in_default-clause-err
returns-in_default-clause-err c = (
  refl,
  λ n spelled. let ascii = IsAscii-from_digits c.args.word.now spelled.0.1 in
      c.in_default.ensures.cases.0 (IsUtf8-from_ascii c.args.word.now ascii),
)
