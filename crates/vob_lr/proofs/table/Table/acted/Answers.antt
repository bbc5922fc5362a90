-- Each terminal so far is told.
use Rattle.std.proofs.Common.{◌≡◌, ◌∙◌, arith, rules, subst, ℕ}
use Rattle.vob_lr.specs.Expected.{Acts}
use Rattle.vob_lr.proofs.ExpectedLemmas.{TellBelow, some_acts, tell_all, tell_next}
use Rattle.vob_lr.proofs.table.Table.acted.Goals as goal

pub loop-terminal-preserved : goal.loop-terminal-preserved
loop-terminal-preserved c = record {
  long = c.set.ensures.written.len ∙ c.loop-terminal.invariant.long;
  tell = tell_next (Acts c.args.self.now c.args.state) c.loop-terminal.set.bits c.set.new.self.bits
      c.loop-terminal.terminal c.is_some.result c.loop-terminal.invariant.tell c.set.ensures.written
      (some_acts c.args.self.now c.args.state c.loop-terminal.terminal c.chosen.result c.is_some.result
      c.chosen.ensures c.is_some.ensures);
}

pub returns : goal.returns
returns c =
    let count : c.grammar.result.now.terminals ≡ c.args.self.now.machine.grammar.terminals = search rules in
    let end : c.loop-terminal.terminal ≡ c.grammar.result.now.terminals = omega arith in
    tell_all c.args.self.now c.lookaheads.ensures.sound c.args.state c.loop-terminal.set.bits
    (c.loop-terminal.invariant.long ∙ count)
    (subst (λ (n : ℕ). TellBelow (Acts c.args.self.now c.args.state) c.loop-terminal.set.bits n) (end ∙ count)
    c.loop-terminal.invariant.tell)
