-- The numbers of a graph that was read are in range.
use Rattle.std.proofs.KnownBytes.{Keeps-refl}
use Rattle.std.proofs.lemmas.Result.{err_from_is_err_and}
use Rattle.files_dot.specs.declared.notation.Notation.TheVariants.{Lines}
use Rattle.files_flow.proofs.FaultLemmas.{output_fails, unread_fails}
use Rattle.files_flow.proofs.FittingLemmas.{in_range}
use Rattle.files_flow.proofs.analysis.print_lines.Goals as goal

pub print_listed-requires : goal.print_listed-requires
print_listed-requires g c = in_range c.args.text.now c.in_ok-graph.graph c.in_ok-graph.ensures.ok

pub returns-in_err-graph-clause-err : goal.returns-in_err-graph-clause-err
returns-in_err-graph-clause-err g c =
    let p = err_from_is_err_and c.from_residual.result c.from_residual.ensures.1 in
    rw (p.1, p.2) (unread_fails c.args.text.now c.args.analysis c.args.form _ _ (Keeps-refl _) c.in_err-graph.field-0.0 c.in_err-graph.ensures.err)

pub returns-in_err-print_listed-clause-err : goal.returns-in_err-print_listed-clause-err
returns-in_err-print_listed-clause-err g c =
    let p = err_from_is_err_and c.from_residual-in_err-print_listed.result
    c.from_residual-in_err-print_listed.ensures.1 in
    rw (p.1, p.2) (output_fails c.args.text.now c.args.analysis c.args.form _ _ Lines c.in_err-print_listed.field-0.0 c.in_err-print_listed.ensures.err)

pub returns-clause-ok : goal.returns-clause-ok
returns-clause-ok g c = record {
  graph = c.in_ok-graph.graph;
  graph_is = c.in_ok-graph.ensures.ok;
  written = c.in_ok-print_listed.ensures.ok;
}
