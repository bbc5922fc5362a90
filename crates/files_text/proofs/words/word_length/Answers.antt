-- A word is a mark, or all letters up to the next byte that is none.
use Rattle.files_text.proofs.WordsLemmas.{mark_is_word, letters_are_word}
use Rattle.files_text.proofs.words.word_length.Goals as goal

pub returns-then-contains-clause-word : goal.returns-then-contains-clause-word
returns-then-contains-clause-word c =
    mark_is_word c.args.marks.now c.args.text.now c.requires c.if-contains.ensures.value

pub returns-clause-word : goal.returns-clause-word
returns-clause-word c =
    letters_are_word c.args.marks.now c.args.text.now c.letters.result c.letters.ensures.count c.requires
    c.if-contains.ensures.value
