-- The lines stand after an empty one.
use Rattle.files_grammar.proofs.TextLemmas.{after}
use Rattle.files_grammar.proofs.rules.put_rules.Goals as goal

pub returns : goal.returns
returns g c = after _ _ _ _ c.in_ok-end_line.ensures c.in_ok-put_all.ensures
