-- No bit is set in both.
use Rattle.vob.proofs.PairLemmas.{disjoint_is}
use Rattle.vob_c.proofs.compare.are_disjoint.Goals as goal

pub returns : goal.returns
returns c =
    let is = disjoint_is _ _ in
    ((λ e. is.0 (c.none_of.ensures.0 e)), (λ all. c.none_of.ensures.1 (is.1 all)))
