-- The word is the next one, or the text has ended.
use Rattle.std.proofs.Common.{◌==◌, ap, ◌∙◌, length}
use Rattle.files_text.specs.Words.{Rest}
use Rattle.files_text.proofs.WordsLemmas.{none_left, word_next}
use Rattle.files_text.proofs.words.Words.take_word.Goals as goal

pub returns-then-is_empty-clause-none : goal.returns-then-is_empty-clause-none
returns-then-is_empty-clause-none c =
    none_left c.args.self.now (c.if-is_empty.ensures ∙ ap (λ (r : Rest). length r.text == 0) c.self.view_is)

pub returns-clause-some : goal.returns-clause-some
returns-clause-some c =
    word_next c.args.self.now _ c.pass.new.self c.word_length-count.result c.self.view_is c.requires
    c.if-is_empty.ensures c.word_length-count.ensures.word c.word_length-count.ensures.within
    c.pass.ensures
