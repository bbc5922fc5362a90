-- The reductions that are left are still to be written.
use Rattle.std.specs.Prelude.{◌++◌, drop}
use Rattle.files_text.proofs.PrintedLemmas.{AppendsItems}
use Rattle.files_grammar.specs.ActionText.{reduction}
use Rattle.files_grammar.proofs.actions.put_others.Given as goal

abbrev pub invariant-loop-rule : goal.invariant-loop-rule
invariant-loop-rule g l =
    AppendsItems (λ r. l.between ++ reduction r) (g.W.Write.contents l.fn.output) (g.W.Write.contents l.output)
    l.rules (drop l.rule-index l.rules)
