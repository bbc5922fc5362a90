-- The text up to the next quote is next, or there is no other quote.
use Rattle.std.proofs.Common.{refl}
use Rattle.files_condition.proofs.WordsLemmas.{inner_is, never_closed, quoted_left}
use Rattle.files_condition.proofs.words.Words.take_quoted.Goals as goal

pub returns-then-count-text-clause-err : goal.returns-then-count-text-clause-err
returns-then-count-text-clause-err c =
    let (at, inside, words, all) = never_closed c.args.self.now.at c.args.self.now.rest.now _
    c.inside-count.result (inner_is c.args.self.now.rest.now) c.requires c.inside-count.ensures.count
    c.if-count-text.true in
    (at, inside, words, all, refl, refl)

pub returns-clause-ok : goal.returns-clause-ok
returns-clause-ok c =
    quoted_left c.args.self.now.at c.inside-count.result _ _ c.args.self.now.rest.now _ _
    (inner_is c.args.self.now.rest.now) c.requires c.inside-count.ensures.count c.if-count-text.false refl
    c.pass.ensures.rest c.pass.ensures.at
