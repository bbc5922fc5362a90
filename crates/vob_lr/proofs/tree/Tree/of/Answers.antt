-- The symbols before the end are those of rule 0.
use Rattle.std.proofs.Common.{◌∙◌, List, subst}
use Rattle.vob_lr.specs.Replays.{AreReplayed}
use Rattle.vob_lr.specs.declared.grammar.Symbol.{Symbol}
use Rattle.vob_lr.proofs.RootLemmas.{before_end}
use Rattle.vob_lr.proofs.StandLemmas.{is_tree}
use Rattle.vob_lr.proofs.tree.Tree.of.Goals as goal

pub returns : goal.returns
returns c =
    is_tree c.args.rules.now c.args.tokens.now c.args.parsed.now c.in_ok-tree.tree c.requires
    (subst (λ (l : List Symbol). AreReplayed c.args.rules.now l c.args.tokens.now c.args.parsed.now c.in_ok-tree.tree)
    (before_end c.right_of-right.result.now c.requires.symbols
    (c.right_of-right.ensures c.requires.rule c.requires.is ∙ c.requires.then_end)) c.in_ok-tree.ensures)
