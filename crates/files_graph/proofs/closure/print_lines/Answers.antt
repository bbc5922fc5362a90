-- What fails on the graph that was read, or leaves it unread.
use Rattle.std.proofs.lemmas.Result.{err_from_is_err_and}
use Rattle.files_dot.specs.declared.notation.Notation.TheVariants.{Lines}
use Rattle.files_graph.proofs.GraphLemmas.{fails_of}
use Rattle.files_graph.proofs.closure.print_lines.Goals as goal

pub returns-in_err-print_part-clause-err : goal.returns-in_err-print_part-clause-err
returns-in_err-print_part-clause-err g c =
    let refused = c.from_residual-in_err-print_part in
    let p = err_from_is_err_and refused.result refused.ensures.1 in
    rw (p.1, p.2)
    (fails_of Lines c.args.text.now _ _ c.in_ok-graph.ensures.ok c.args.part _ _ _ c.in_err-print_part.ensures.err)
