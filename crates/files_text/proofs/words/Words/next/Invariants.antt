-- The words that are left behind white space and comments are those that were left before.
use Rattle.std.proofs.Common.{◌≤◌, List, length}
use Rattle.files_text.specs.Words.{AreLeft, Token}
use Rattle.files_text.proofs.words.Words.next.Given as goal

abbrev pub invariant-blanks : goal.invariant-blanks
invariant-blanks l = ((words : List Token) → AreLeft l.self words → AreLeft l.initial.self words)
    × (length l.self.text ≤ length l.initial.self.text)

abbrev pub decreases-blanks : goal.decreases-blanks
decreases-blanks l = length l.self.text
