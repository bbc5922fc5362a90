-- A path has so many edges, and a path of so many edges is one.
use Rattle.vob_matrix.proofs.ProductLemmas.{closure-of_powers}
use Rattle.vob_matrix.proofs.laws.closure_is_of_powers.Goals as goal

pub returns : goal.returns
returns c = closure-of_powers
