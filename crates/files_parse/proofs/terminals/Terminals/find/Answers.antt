-- The map has the terminal that the word names.
use Rattle.std.proofs.Common.{◌∙◌}
use Rattle.files_parse.proofs.TerminalLemmas.{terminal_is}
use Rattle.files_parse.proofs.terminals.Terminals.find.Goals as goal

pub returns-clause-some : goal.returns-clause-some
returns-clause-some c =
    rw (← c.self.view_is, c.copied.ensures ∙ c.get.ensures.value ∙ c.self.invariant c.args.word)
    (terminal_is c.self.inside.names.now c.args.word.now).0

pub returns-clause-none : goal.returns-clause-none
returns-clause-none c =
    rw (← c.self.view_is, c.copied.ensures ∙ c.get.ensures.value ∙ c.self.invariant c.args.word)
    (terminal_is c.self.inside.names.now c.args.word.now).1
