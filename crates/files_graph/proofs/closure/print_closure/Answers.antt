-- The text is read in its notation.
use Rattle.files_graph.proofs.closure.print_closure.Goals as goal

pub returns-clause-ok : goal.returns-clause-ok
returns-clause-ok g c = (c.notation_of-notation.result, c.notation_of-notation.ensures, c.in_ok-print_in.ensures.ok)
