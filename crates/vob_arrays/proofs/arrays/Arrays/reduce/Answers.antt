-- States are left, and the one is entered that follows, if there is one.
use Rattle.std.proofs.Common.{ap, arith, subst, sym}
use Rattle.vob_lr.specs.Parses.{Config, IsReplaced, replaced}
use Rattle.vob_arrays.proofs.StepLemmas.{replaced_is, replaced_none, rule_of}
use Rattle.vob_arrays.proofs.arrays.Arrays.reduce.Goals as goal

pub returns-in_default-next-clause-err : goal.returns-in_default-next-clause-err
returns-in_default-next-clause-err c = λ table of low.
    let left = c.in-Some-Some.left in
    let length = c.in-Some-Some.length in
    let (rule, is, symbol, count) = rule_of table c.args.self.now of c.args.rule left length
    (sym c.in-Some-Some.ensures) (sym c.in-Some-Some.ensures') in
    rw c.unexpected.ensures (
      sym (ap (λ (run : Config). run.read) c.leave.ensures),
      replaced_none table.machine c.args.run.now c.leave.new.self c.args.rule length c.state.result rule is
          count c.leave.ensures c.state.ensures
          (λ p. c.in_default-next.ensures.none table rule.left p of symbol),
    )

pub returns-then-reductions-most-clause-err : goal.returns-then-reductions-most-clause-err
returns-then-reductions-most-clause-err c = λ table of low.
    let left = c.in-Some-Some.left in
    let length = c.in-Some-Some.length in
    let (rule, is, symbol, count) = rule_of table c.args.self.now of c.args.rule left length
    (sym c.in-Some-Some.ensures) (sym c.in-Some-Some.ensures') in (
      replaced c.args.rule 0 c.in-Some.state c.leave.new.self,
      replaced_is table.machine c.args.run.now c.leave.new.self c.args.rule length c.state.result rule is
          count c.leave.ensures c.state.ensures c.in-Some.state
          (c.in-Some.ensures.some table rule.left of symbol),
      omega (arith, c.if-reductions-most.true, c.reductions.ensures),
    )

pub returns-clause-ok : goal.returns-clause-ok
returns-clause-ok c = λ table of.
    let left = c.in-Some-Some.left in
    let length = c.in-Some-Some.length in
    let (rule, is, symbol, count) = rule_of table c.args.self.now of c.args.rule left length
    (sym c.in-Some-Some.ensures) (sym c.in-Some-Some.ensures') in
    subst (λ (d : Config). IsReplaced table.machine c.args.rule c.args.run.now d)
    (sym c.in_ok-enter.ensures)
    (replaced_is table.machine c.args.run.now c.leave.new.self c.args.rule length c.state.result rule is
    count c.leave.ensures c.state.ensures c.in-Some.state
    (c.in-Some.ensures.some table rule.left of symbol))
