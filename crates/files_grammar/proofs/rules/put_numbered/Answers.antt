-- The number stands before the line of the rule.
use Rattle.files_text.proofs.PrintedLemmas.{Appends-both}
use Rattle.files_grammar.proofs.RuleLemmas.{says_rule}
use Rattle.files_grammar.proofs.rules.put_numbered.Goals as goal

pub returns : goal.returns
returns g c = (
  _,
  Appends-both _ _ _ _ _ c.in_ok-put_rule_number.ensures c.in_ok-put_rule.ensures,
  says_rule c.args.names.now c.args.rules.now c.args.number c.index-rules-number.result c.requires
      c.index-rules-number.is,
)
