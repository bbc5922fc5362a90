-- What is passed is white space.
use Rattle.files_condition.proofs.WordsLemmas.{dark_left, white_left}
use Rattle.files_condition.proofs.words.Words.pass_white.Goals as goal

pub returns-clause-white : goal.returns-clause-white
returns-clause-white c =
    white_left c.args.self.now.at c.args.self.now.rest.now c.white-count.result _ _ c.white-count.ensures.count
    c.pass.ensures.rest c.pass.ensures.at

pub returns-clause-dark : goal.returns-clause-dark
returns-clause-dark c =
    dark_left c.args.self.now.rest.now c.white-count.result _ c.white-count.ensures.count c.pass.ensures.rest
