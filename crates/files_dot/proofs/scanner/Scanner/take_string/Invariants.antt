-- The strings so far.
use Rattle.std.proofs.Common.{◌<◌, length}
use Rattle.files_dot.specs.Tokens.{AreStrings}
use Rattle.files_dot.proofs.scanner.Scanner.take_string.Given as goal

abbrev pub invariant-joined : goal.invariant-joined
invariant-joined l = AreStrings l.fn.self.place l.fn.self.rest.now l.text.items l.self.place l.self.rest.now
    × (length l.self.rest.now < length l.fn.self.rest.now)

abbrev pub decreases-joined : goal.decreases-joined
decreases-joined l = length l.self.rest.now
