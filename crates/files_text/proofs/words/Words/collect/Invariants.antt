-- Each word takes bytes off.
use Rattle.std.proofs.Common.{◌++◌, List, length, map}
use Rattle.files_text.specs.Words.{AreLeft, Token, token_of}
use Rattle.files_text.proofs.words.Words.collect.Given as goal

abbrev pub invariant-words : goal.invariant-words
invariant-words l = (rest : List Token) → AreLeft l.words rest → AreLeft l.initial.words (map token_of l.all.items ++ rest)

abbrev pub decreases-words : goal.decreases-words
decreases-words l = length l.words.text
