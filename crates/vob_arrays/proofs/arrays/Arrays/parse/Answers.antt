-- What steps led to is what each table says.
use Rattle.std.proofs.Common.{◌≡◌, ap, arith, length, subst}
use Rattle.std.proofs.lemmas.Result.{err_from_is_err_and}
use Rattle.vob_lr.specs.Parses.{Config, Steps}
use Rattle.vob_lr.specs.Parses.IsReached.{begins, then_steps}
use Rattle.vob_lr.specs.declared.parse.ParseError.TheVariants.{TooLong}
use Rattle.vob_arrays.specs.Drives.{IsStopBy}
use Rattle.vob_arrays.specs.declared.error.ArraysError.{ArraysError}
use Rattle.vob_arrays.specs.declared.error.ArraysError.TheVariants.{Parse}
use Rattle.vob_arrays.proofs.arrays.Arrays.parse.Goals as goal

pub steps-init : goal.steps-init
steps-init c = record {
  reached = λ table of. begins c.in_ok-run.ensures;
  within = omega (arith, ap (λ (run : Config). length run.reduced) c.in_ok-run.ensures);
}

pub steps-preserved : goal.steps-preserved
steps-preserved c = record {
  reached = λ table of. then_steps (c.steps.invariant.reached table of) (c.in_ok-step.ensures.ok table of);
  within = c.in_ok-step.ensures.within c.steps.invariant.within;
}

pub returns-in_err-step-clause-too_long : goal.returns-in_err-step-clause-too_long
returns-in_err-step-clause-too_long c = λ e table of.
    let refused = c.from_residual-in_err-step in
    let p = err_from_is_err_and refused.result refused.ensures.1 in
    let same : c.in_err-step.field-0.0 ≡ Parse TooLong = cc in
    let stop = subst (λ (x : ArraysError). IsStopBy (Steps table c.args.tokens.now c.steps.run) c.args.most
    c.steps.run x) same (c.in_err-step.ensures.err table of) in
    record {
      config = stop.0;
      reached = then_steps {d = stop.0} (c.steps.invariant.reached table of) stop.1;
      more = stop.2;
    }
