-- The words so far, and the text behind them.
use Rattle.std.proofs.Common.{◌≤◌, length, map}
use Rattle.files_condition.specs.Words.{AreWords, token_of}
use Rattle.files_condition.proofs.words.words_of.Given as goal

abbrev pub invariant-words : goal.invariant-words
invariant-words l = AreWords 1 l.text (map token_of l.words.items) l.left.at l.left.rest.now
    × (length l.words.items ≤ 1000)

abbrev pub decreases-words : goal.decreases-words
decreases-words l = length l.left.rest.now
