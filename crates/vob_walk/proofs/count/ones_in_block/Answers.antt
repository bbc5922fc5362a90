-- By the lemma on a block that is masked.
use Rattle.std.proofs.Common.{◌∙◌, refl, arith}
use Rattle.vob_walk.proofs.CountLemmas.{ones-masked}
use Rattle.vob_walk.proofs.count.ones_in_block.Goals as goal

pub returns-clause-ones : goal.returns-clause-ones
returns-clause-ones g c =
    c.ones_in.ensures ∙ ones-masked _ _ c.args.start c.args.stop c.args.k _ _ _ _
    c.read.ensures.block c.masked.ensures.places refl refl
    (omega arith)
