-- A reduction that stops stops the parser.
use Rattle.std.proofs.Common.{◌≡◌, Some, get_or}
use Rattle.std.proofs.lemmas.Result.{err_from_is_err_and}
use Rattle.vob_lr.specs.Tables.{chosen_at}
use Rattle.vob_lr.specs.declared.table.Action.TheVariants.{Reduce}
use Rattle.vob_arrays.proofs.StepLemmas.{reduce_there, stop_reduced}
use Rattle.vob_arrays.proofs.arrays.Arrays.step.Goals as goal

pub returns-in_err-reduce-in-Some-Reduce-clause-err : goal.returns-in_err-reduce-in-Some-Reduce-clause-err
returns-in_err-reduce-in-Some-Reduce-clause-err c =
    let refused = c.from_residual-in_err-reduce-in-Some-Reduce in
    let p = err_from_is_err_and refused.result refused.ensures.1 in
    rw (p.1, p.2) (λ table of.
    let run = c.args.run.now in
    let r = c.in-Some-Reduce.rule in
    let action : chosen_at table.cells (get_or run.states 0 0) (get_or c.args.tokens.now run.read 0)
    ≡ Some (Reduce r) = cc (c.chosen.ensures table of) in
    stop_reduced table c.args.tokens.now c.args.most run r action c.in_err-reduce-in-Some-Reduce.field-0.0
    (c.in_err-reduce-in-Some-Reduce.ensures.err table of
    (reduce_there table c.args.self.now of (get_or run.states 0 0) (get_or c.args.tokens.now run.read 0) r
    action)))
