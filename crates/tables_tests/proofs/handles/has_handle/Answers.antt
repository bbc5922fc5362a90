-- The law, where all nonterminals derive tokens.
use Rattle.std.proofs.Common.{◌≡◌, ◌<◌, ◌∙◌, ℕ, Bool, true, false, List, length, subst, sym, arith}
use Rattle.std.proofs.lemmas.Bool.{false≢true}
use Rattle.std.proofs.lemmas.Option.{same_Some}
use Rattle.vob_block.specs.Packing.{item}
use Rattle.vob_lr.specs.Canonical.{IsProductive}
use Rattle.vob_lr.specs.Faults.{IsWellFormed}
use Rattle.vob_lr.specs.Languages.{AreProductive}
use Rattle.vob_lr.specs.Lookaheads.{Machine}
use Rattle.vob_lr.specs.Productive.{TellProductive}
use Rattle.vob_lr.specs.States.{AreStates}
use Rattle.vob_lr.specs.declared.grammar.Grammar.{Grammar}
use Rattle.tables_tests.proofs.handles.has_handle.Goals as goal

-- what the calls ensure is what the law asks for
is_productive : (m : Machine) → IsWellFormed m.grammar →
    AreStates m.grammar.rules.items m.sets m.moves → (grammar : Grammar) → grammar ≡ m.grammar →
    (set : List Bool) → ((i : ℕ) → i < length set → item set i ≡ true) → TellProductive grammar set →
    IsProductive m
is_productive m rules states grammar same set all told = record {
  rules = rules;
  states = states;
  each = subst (λ (g : Grammar). AreProductive g) same
      (λ a less. (told.each a).0 (all a (omega (arith, less, told.count))));
}

own : (c : goal.After-drop-set-inside-2) → IsProductive c.args.found.now
own c =
    is_productive c.args.found.now c.automaton-states.ensures.rules c.automaton-states.ensures.states
    c.grammar.result.now (c.grammar.ensures ∙ c.items.ensures) c.in_ok-set.set.bits
    (c.all.ensures.answer.0 c.if-not-all.false) c.in_ok-set.ensures.productive

pub returns-clause-yes : goal.returns-clause-yes
returns-clause-yes c = λ is.
    let law = c.reductions_are_of_handles.ensures c.args.found.now (own c) c.args.state
    c.args.terminal c.args.rule in
    law.0 (c.reduces.ensures.0 (same_Some c.reduces.result true is))

pub returns-clause-no : goal.returns-clause-no
returns-clause-no c = λ is handle.
    let law = c.reductions_are_of_handles.ensures c.args.found.now (own c) c.args.state
    c.args.terminal c.args.rule in
    let on = c.reduces.ensures.1 (law.1 handle) in
    false≢true (sym (same_Some c.reduces.result false is) ∙ on)
