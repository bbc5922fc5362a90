-- A line has no words where nothing stands behind its leading spaces.
use Rattle.std.proofs.Common.{◌≡◌, length, arith}
use Rattle.std.proofs.lemmas.Bool.Decides.{nat_tests}
use Rattle.vob_lines.proofs.CutLemmas.{words_of-none, words_of-blank}
use Rattle.vob_lines.proofs.line.is_blank.Goals as goal

pub returns : goal.returns
returns c = (
  λ blank. words_of-blank _ _ c.past_spaces.ensures (grind (arith, nat_tests)),
  λ none. let empty : length c.past_spaces.result.now ≡ 0 =
      words_of-none _ _ c.past_spaces.ensures none in grind (arith, nat_tests),
)
