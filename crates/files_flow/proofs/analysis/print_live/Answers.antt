-- The solution meets the equations of live variables.
use Rattle.files_flow.proofs.LiveLemmas.{lists_live}
use Rattle.files_flow.proofs.FittingLemmas.{live_sound}
use Rattle.files_flow.proofs.analysis.print_live.Goals as goal

pub print_solution-requires : goal.print_solution-requires
print_solution-requires g c =
    live_sound c.args.graph.now c.requires c.in_ok-problem.problem c.in_ok-problem.ensures

pub returns-clause-ok : goal.returns-clause-ok
returns-clause-ok g c =
    let text = c.in_ok-print_solution.ensures.ok in (
      text.0,
      text.1,
      lists_live c.args.json c.args.graph.now c.in_ok-problem.problem _ c.in_ok-problem.ensures
          (live_sound c.args.graph.now c.requires c.in_ok-problem.problem c.in_ok-problem.ensures) text.2,
    )
