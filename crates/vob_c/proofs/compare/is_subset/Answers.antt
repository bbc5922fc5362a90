-- No bit is set in one alone.
use Rattle.vob.proofs.PairLemmas.{subset_is}
use Rattle.vob_c.proofs.compare.is_subset.Goals as goal

pub returns : goal.returns
returns c =
    let is = subset_is _ _ in
    ((λ e. is.0 (c.none_of.ensures.0 e)), (λ all. c.none_of.ensures.1 (is.1 all)))
