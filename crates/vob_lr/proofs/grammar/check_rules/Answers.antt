-- The rule that was read is the first that isn't sound, or is sound.
use Rattle.std.proofs.Common.{◌∙◌, refl, sym, length, arith}
use Rattle.std.proofs.lemmas.Bool.{false≢true}
use Rattle.std.proofs.lemmas.Option.{slice_get_read}
use Rattle.vob_lr.specs.Faults.{IsRuleOf}
use Rattle.vob_flow.proofs.FirstLemmas.{below_more_at, all_below_at}
use Rattle.vob_lr.proofs.grammar.check_rules.Goals as goal

pub returns-then-not-is_rule_of-clause-err : goal.returns-then-not-is_rule_of-clause-err
returns-then-not-is_rule_of-clause-err c =
    let rules = c.args.grammar.now.rules.items in
    record {
      lower = c.loop-rule.invariant;
      rule = c.index.result.now;
      is = slice_get_read rules (length rules) c.loop-rule.rule c.index.result.now refl
          (omega arith) c.index.ensures;
      bad = λ good.
          false≢true (sym c.if-not-is_rule_of.true ∙ c.is_rule_of.ensures.1 good);
    }

pub loop-rule-preserved : goal.loop-rule-preserved
loop-rule-preserved c =
    let rules = c.args.grammar.now.rules.items in
    let is = slice_get_read rules (length rules) c.loop-rule.rule c.index.result.now refl
    (omega arith) c.index.ensures in
    below_more_at (IsRuleOf c.args.grammar.now) rules c.loop-rule.rule c.index.result.now is
    (c.is_rule_of.ensures.0 c.if-not-is_rule_of.false) c.loop-rule.invariant

pub returns-clause-ok : goal.returns-clause-ok
returns-clause-ok c =
    all_below_at (IsRuleOf c.args.grammar.now) c.args.grammar.now.rules.items c.loop-rule.rule
    (omega arith) c.loop-rule.invariant
