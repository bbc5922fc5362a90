-- The lines are those of the solution of the graph's problem.
use Rattle.files_flow.proofs.FittingLemmas.{busy_sound}
use Rattle.files_flow.proofs.analysis.print_busy.Goals as goal

pub print_solution-requires : goal.print_solution-requires
print_solution-requires g c =
    busy_sound c.args.graph.now c.requires c.in_ok-problem.problem c.in_ok-problem.ensures

pub returns-clause-ok : goal.returns-clause-ok
returns-clause-ok g c =
    let text = c.in_ok-print_solution.ensures.ok in (
      text.0,
      text.1,
      record { problem = _; of = c.in_ok-problem.ensures; lists = text.2 },
    )
