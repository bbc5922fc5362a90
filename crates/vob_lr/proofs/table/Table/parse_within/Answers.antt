-- What steps led to is what the table says.
use Rattle.std.proofs.Common.{◌≡◌, ap, arith, length, refl, subst}
use Rattle.std.proofs.lemmas.Result.{err_from_is_err_and}
use Rattle.vob_lr.specs.Parses.{Config, Steps}
use Rattle.vob_lr.specs.Parses.IsReached.{begins, then_steps}
use Rattle.vob_lr.specs.Stops.{IsStop}
use Rattle.vob_lr.specs.declared.parse.ParseError.{ParseError}
use Rattle.vob_lr.specs.declared.parse.ParseError.TheVariants.{TooLong}
use Rattle.vob_lr.proofs.ParseLemmas.{parse_accepted}
use Rattle.vob_lr.proofs.table.Table.parse_within.Goals as goal

pub steps-init : goal.steps-init
steps-init c = record {
  reached = begins c.in_ok-run.ensures;
  within = omega (arith, ap (λ (r : Config). length r.reduced) c.in_ok-run.ensures);
}

pub steps-preserved : goal.steps-preserved
steps-preserved c = record {
  reached = then_steps c.steps.invariant.reached c.in_ok-step.ensures.ok;
  within = c.in_ok-step.ensures.within c.steps.invariant.within;
}

pub returns-in_err-step-clause-too_long : goal.returns-in_err-step-clause-too_long
returns-in_err-step-clause-too_long c = λ e.
    let refused = c.from_residual-in_err-step in
    let p = err_from_is_err_and refused.result refused.ensures.1 in
    let same : c.in_err-step.field-0.0 ≡ TooLong = cc in
    let stop = subst (λ (x : ParseError). IsStop (Steps c.args.self.now c.args.tokens.now c.steps.run)
    c.args.reductions c.steps.run x) same c.in_err-step.ensures.err in
    record {
      config = stop.0;
      reached = then_steps {d = stop.0} c.steps.invariant.reached stop.1;
      more = stop.2;
    }

pub returns-clause-derives : goal.returns-clause-derives
returns-clause-derives c =
    let sound = c.lookaheads-states.ensures.sound in
    let a = c.steps-test.false in
    let b = c.steps-test.ensures in
    parse_accepted c.args.self.now c.args.tokens.now sound.states sound.actions c.steps.run
    c.steps.invariant.reached (b.0 refl) c.into_rules.result.items c.into_rules.ensures
