-- The reader has taken the words that were passed.
use Rattle.std.proofs.Common.{◌++◌, List, length}
use Rattle.files_text.specs.Words.{AreLeft, Token}
use Rattle.files_flow.specs.Reading.{HasRead}
use Rattle.files_flow.proofs.nodes.read_nodes.Given as goal

abbrev pub invariant-words : goal.invariant-words
invariant-words l = (taken : List Token) × HasRead l.reader taken
    × ((rest : List Token) → AreLeft l.words rest → AreLeft l.initial.words (taken ++ rest))

abbrev pub decreases-words : goal.decreases-words
decreases-words l = length l.words.text
