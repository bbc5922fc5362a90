-- The terminals below the next that fit are there.
use Rattle.vob_lr.specs.Those.{AreThose}
use Rattle.files_grammar.proofs.OrderLemmas.{Below}
use Rattle.files_parse.specs.Fitting.{IsExpected}
use Rattle.files_parse.proofs.expected.expected.Given as goal

abbrev pub invariant-loop-terminal : goal.invariant-loop-terminal
invariant-loop-terminal l = AreThose (Below (IsExpected l.table l.names l.tokens) l.terminal) l.terminals.items
