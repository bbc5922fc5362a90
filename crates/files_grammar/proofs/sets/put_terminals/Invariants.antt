-- The names of the terminals that are left are still to be written.
use Rattle.files_text.specs.Printed.{members}
use Rattle.files_text.proofs.PrintedLemmas.{AppendsItems}
use Rattle.vob_lr.specs.declared.grammar.Symbol.TheVariants.{Terminal}
use Rattle.files_grammar.specs.Rules.{next_name}
use Rattle.files_grammar.proofs.sets.put_terminals.Given as goal

abbrev pub invariant-loop-terminal : goal.invariant-loop-terminal
invariant-loop-terminal g l = record {
  can_next : (goal.iterator-loop-terminal g).can_next l.terminal-iterator;
  is_finite : (goal.iterator-loop-terminal g).is_finite l.terminal-iterator;
  wrote : AppendsItems (λ t. next_name l.names (Terminal t)) (g.W.Write.contents l.fn.output)
      (g.W.Write.contents l.output) (members l.set) l.terminal-iterator.rest;
}
