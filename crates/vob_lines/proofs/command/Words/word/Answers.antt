-- The first word stands behind the leading spaces.
use Rattle.std.proofs.Common.{◌<◌, length, refl, sym, ◌∙◌, arith}
use Rattle.std.proofs.lemmas.Bool.Decides.{nat_tests}
use Rattle.vob_lines.proofs.CutLemmas.{words_of-cut, words_of-blank}
use Rattle.vob_lines.proofs.command.Words.word.Goals as goal

-- nothing stands behind the spaces
pub returns-then-is_empty-clause-err : goal.returns-then-is_empty-clause-err
returns-then-is_empty-clause-err c = (
  refl,
  sym c.self.view_is
      ∙ words_of-blank _ _ c.past_spaces-rest.ensures (grind (arith, nat_tests)),
)

-- the word goes up to the next space
pub returns-clause-ok : goal.returns-clause-ok
returns-clause-ok c =
    let some : 0 < length c.past_spaces-rest.result.now = grind (arith, nat_tests) in
    sym c.self.view_is
    ∙ words_of-cut _ _ c.first_place.result _ _ c.past_spaces-rest.ensures some
    c.first_place.ensures.place c.split_at.ensures.front c.split_at.ensures.back
