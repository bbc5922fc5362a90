-- What is found solves the problem of the lists.
use Rattle.std.proofs.Common.{◌≡◌, ◌∙◌, length}
use Rattle.files_flow.proofs.analysis.solve.Goals as goal

pub returns-in-Ok : goal.returns-in-Ok
returns-in-Ok c =
    let places : c.len.result ≡ length c.args.problem.now.labels.items =
    c.len.ensures ∙ c.args.problem.now.labels.ok.0 in
    let made = rw (
      places,
      c.in_ok-from.ensures,
      c.deref.ensures.value,
      c.deref-2.ensures.value,
      c.deref-3.ensures.value,
      c.deref-4.ensures.value,
    ) at c.in-Ok.ensures.solved in record {
      near_sets = made.near_sets;
      far_sets = made.far_sets;
      solved = made.solved;
      near_is = made.near_is;
      far_is = made.far_is;
    }
