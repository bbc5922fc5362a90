-- Rows without words are canonical.
use Rattle.std.proofs.Common.{◌∙◌, refl, sym}
use Rattle.vob_c.proofs.LinkingLemmas.{no_words}
use Rattle.vob_c.proofs.rows.are_canonical.Goals as goal

pub returns-then-words-eq0 : goal.returns-then-words-eq0
returns-then-words-eq0 c = (
  (λ _. no_words c.args.rows c.args.columns c.args.words.now (sym c.requires ∙ c.if-words-eq0.true)
      c.requires),
  (λ _. refl),
)
