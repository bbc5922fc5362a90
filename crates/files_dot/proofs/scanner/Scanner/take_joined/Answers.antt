-- The strings are one word.
use Rattle.std.proofs.Common.{refl}
use Rattle.files_dot.proofs.TokenLemmas.{takes_joined}
use Rattle.files_dot.proofs.scanner.Scanner.take_joined.Goals as goal

pub returns-clause-ok : goal.returns-clause-ok
returns-clause-ok c = takes_joined _ c.in_ok-text.ensures.ok refl c.in_ok-text.ensures.shorter
