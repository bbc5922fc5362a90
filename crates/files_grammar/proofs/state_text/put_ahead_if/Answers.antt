-- The lookaheads are written if they are wanted.
use Rattle.files_grammar.proofs.TextLemmas.{says_yes}
use Rattle.files_grammar.proofs.state_text.put_ahead_if.Goals as goal

pub returns : goal.returns
returns g c = says_yes _ _ c.if-not-is_wanted.false c.in_ok-put_ahead.ensures
