-- The numbers of the names of edges are nodes.
use Rattle.files_dot.specs.declared.notation.Notation.TheVariants.{Lines}
use Rattle.files_graph.proofs.GraphLemmas.{has_inside, lines_pairs}
use Rattle.files_graph.proofs.graph.read_lines.Goals as goal

pub joined-requires : goal.joined-requires
joined-requires c = has_inside (lines_pairs c.in_ok-read.ensures.ok)

pub returns-clause-ok : goal.returns-clause-ok
returns-clause-ok c = c.in_ok-graph.ensures Lines c.args.text.now (lines_pairs c.in_ok-read.ensures.ok)
