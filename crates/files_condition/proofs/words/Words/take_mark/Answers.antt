-- The mark is next.
use Rattle.files_condition.proofs.WordsLemmas.{mark_left}
use Rattle.files_condition.proofs.words.Words.take_mark.Goals as goal

pub returns : goal.returns
returns c =
    mark_left c.args.self.now.at c.mark_length.result _ _ c.args.self.now.rest.now c.args.mark c.requires
    c.mark_length.ensures c.pass.ensures.rest c.pass.ensures.at
