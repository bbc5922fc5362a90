-- The cells have no action of their own.
use Rattle.std.proofs.Common.{◌∙◌, List, ap, subst}
use Rattle.vob_lr.specs.Sizes.{IsBound}
use Rattle.vob_lr.specs.declared.grammar.Grammar.{Grammar}
use Rattle.vob_lr.specs.declared.grammar.Rule.{Rule}
use Rattle.vob_lr.proofs.SoundLemmas.{AreSound-of}
use Rattle.vob_lr.proofs.table.Table.new.Goals as goal

pub invariant_of-result : goal.invariant_of-result
invariant_of-result c = (
  record {
    rules = c.automaton-states.ensures.rules;
    states = c.automaton-states.ensures.states;
    actions = AreSound-of c.args.lookaheads c.args.terminals.now c.args.rules.now c.in_ok-rows.rows.items
        c.in_ok-rows.ensures;
  },
  subst (λ (rules : List Rule). IsBound 18446744073709551615 rules c.in_ok-bound.bound.base c.in_ok-bound.bound.each)
      (ap (λ (g : Grammar). g.rules.items) (c.grammar.ensures ∙ c.items.ensures)) c.in_ok-bound.ensures,
)
