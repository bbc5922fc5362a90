-- What is passed is white space and comments.
use Rattle.std.proofs.Common.{◌≤◌, ℕ, List, length}
use Rattle.files_dot.specs.Tokens.{AreBlanks}
use Rattle.files_dot.specs.declared.place.Place.{Place}
use Rattle.files_dot.proofs.scanner.Scanner.pass_blanks.Given as goal

abbrev pub invariant-blanks : goal.invariant-blanks
invariant-blanks l = ((to : Place) (rest : List ℕ) → AreBlanks l.self.place l.self.rest.now to rest →
    AreBlanks l.initial.self.place l.initial.self.rest.now to rest)
    × (length l.self.rest.now ≤ length l.initial.self.rest.now)

abbrev pub decreases-blanks : goal.decreases-blanks
decreases-blanks l = length l.self.rest.now
