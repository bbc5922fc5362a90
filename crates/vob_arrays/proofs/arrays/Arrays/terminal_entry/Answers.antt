-- An entry at a terminal is of an action.
use Rattle.std.proofs.Common.{◌≤◌, ap, arith}
use Rattle.std.proofs.lemmas.Option.{none-some}
use Rattle.vob_arrays.specs.Arrays.{HasEntry, IsActionAt}
use Rattle.vob_arrays.specs.Views.{TableArrays}
use Rattle.vob_arrays.proofs.EntryLemmas.{action_same, found_is, no_terminal, terminal_is}
use Rattle.vob_arrays.proofs.arrays.Arrays.terminal_entry.Goals as goal

pub returns-then-terminal-self : goal.returns-then-terminal-self
returns-then-terminal-self c = λ table of a.
    let view = c.args.self.now in
    let past : view.terminals ≤ c.args.terminal =
    omega (arith, c.if-terminal-self.true, ap (λ (v : TableArrays). v.terminals) c.self.view_is) in (
      (λ is. absurd (none-some a is)),
      (λ at. absurd (no_terminal table view of c.args.state c.args.terminal a past at)),
    )

pub returns : goal.returns
returns c = λ table of.
    let view = c.args.self.now in
    found_is c.entry.result (HasEntry view c.args.state c.args.terminal)
    (IsActionAt table c.args.state c.args.terminal) c.entry.ensures.some c.entry.ensures.none
    (λ a. terminal_is table view of c.args.state c.args.terminal a
    (omega (arith, c.if-terminal-self.false, ap (λ (v : TableArrays). v.terminals) c.self.view_is)))
    (λ a b. action_same table c.args.state c.args.terminal a b)
