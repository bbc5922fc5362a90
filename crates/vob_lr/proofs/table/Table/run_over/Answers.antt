-- What steps led to is what the table says.
use Rattle.std.proofs.Common.{◌≡◌, ap, arith, length, subst}
use Rattle.std.proofs.lemmas.Result.{err_from_is_err_and}
use Rattle.vob_lr.specs.Parses.{Config, Steps}
use Rattle.vob_lr.specs.Parses.IsReached.{begins, then_steps}
use Rattle.vob_lr.specs.Stops.{IsStop}
use Rattle.vob_lr.specs.declared.parse.ParseError.{ParseError}
use Rattle.vob_lr.specs.declared.parse.ParseError.TheVariants.{TooLong}
use Rattle.vob_lr.proofs.ExpectedLemmas.{read_at_once, read_now}
use Rattle.vob_lr.proofs.table.Table.run_over.Goals as goal

pub steps-init : goal.steps-init
steps-init c = record {
  reached = begins c.in_ok-run.ensures;
  within = omega (arith, ap (λ (r : Config). length r.reduced) c.in_ok-run.ensures);
  read = read_at_once c.args.self.now c.args.tokens.now c.in_ok-run.run' c.in_ok-run.ensures;
}

pub steps-preserved : goal.steps-preserved
steps-preserved c = record {
  reached = then_steps c.steps.invariant.reached c.in_ok-step.ensures.ok;
  within = c.in_ok-step.ensures.within c.steps.invariant.within;
  read = read_now c.args.self.now c.args.tokens.now c.steps.invariant.reached (omega arith)
      c.in_ok-step.ensures.ok;
}

pub returns-in_err-step-clause-too_long : goal.returns-in_err-step-clause-too_long
returns-in_err-step-clause-too_long c = λ e.
    let refused = c.from_residual-in_err-step in
    let p = err_from_is_err_and refused.result refused.ensures.1 in
    let same : c.in_err-step.field-0.0 ≡ TooLong = cc in
    let stop = subst (λ (x : ParseError). IsStop (Steps c.args.self.now c.args.tokens.now c.steps.run)
    c.args.reductions c.steps.run x) same c.in_err-step.ensures.err in
    record {
      config = stop.0;
      reached = then_steps {d = stop.0} c.steps.invariant.reached stop.1;
      more = stop.2;
    }
