-- Those of the rules so far.
use Rattle.vob_lr.specs.Lookaheads.{Reduces}
use Rattle.vob_lr.specs.Those.{AreThose}
use Rattle.files_grammar.proofs.OrderLemmas.{Below}
use Rattle.files_grammar.proofs.conflicts.rules_at.Given as goal

abbrev pub invariant-loop-rule : goal.invariant-loop-rule
invariant-loop-rule l = AreThose (Below (Reduces l.states l.state l.terminal) l.rule) l.rules.items
