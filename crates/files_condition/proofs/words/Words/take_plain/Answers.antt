-- The bytes of a word without quotes are next.
use Rattle.std.proofs.Common.{refl}
use Rattle.files_condition.proofs.WordsLemmas.{plain_left}
use Rattle.files_condition.proofs.words.Words.take_plain.Goals as goal

pub returns : goal.returns
returns c =
    plain_left c.args.self.now.at c.plain-count.result _ _ c.args.self.now.rest.now _ c.requires
    c.plain-count.ensures.count refl c.pass.ensures.rest c.pass.ensures.at
