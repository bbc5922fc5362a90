-- The entry at one terminal more.
use Rattle.std.proofs.Common.{◌≡◌, ◌∙◌, ap, arith}
use Rattle.vob_lr.specs.Lookaheads.{Machine}
use Rattle.vob_lr.specs.declared.grammar.Grammar.{Grammar}
use Rattle.vob_arrays.specs.Arrays.{IsActionAt}
use Rattle.vob_arrays.proofs.AppendLemmas.{appends_both, appends_none, appends_same, below_next}
use Rattle.vob_arrays.proofs.build.push_actions.Goals as goal

pub loop-terminal-init : goal.loop-terminal-init
loop-terminal-init c = appends_none c.args.entries.now.items (λ x a (low, _). omega (arith, low))

pub loop-terminal-preserved : goal.loop-terminal-preserved
loop-terminal-preserved c = appends_both c.loop-terminal.invariant c.in_ok-push_action.ensures
    (below_next (IsActionAt c.args.table.now c.args.state) c.loop-terminal.terminal)

pub returns : goal.returns
returns c =
    let own = c.grammar.ensures ∙ c.items.ensures
    ∙ ap (λ (m : Machine). m.grammar) c.lookaheads.ensures.machine in
    let all : c.loop-terminal.terminal ≡ c.args.table.now.machine.grammar.terminals =
    omega (
      arith,
      c.loop-terminal-test.false,
      c.loop-terminal.auto.terminal-end,
      ap (λ (g : Grammar). g.terminals) own,
    ) in
    appends_same c.loop-terminal.invariant (λ x a. (
      (λ (low, at). (omega (arith, low, all), at)),
      (λ (low, at). (omega (arith, low, all), at)),
    ))
