-- The tokens so far, and the text behind them.
use Rattle.std.proofs.Common.{length, map}
use Rattle.files_dot.specs.Places.{first_place}
use Rattle.files_dot.specs.Tokens.{AreTokens, token_of}
use Rattle.files_dot.proofs.tokens.dot_tokens.Given as goal

abbrev pub invariant-tokens : goal.invariant-tokens
invariant-tokens l = AreTokens first_place l.text (map token_of l.tokens.items) l.scanner.place l.scanner.rest.now

abbrev pub decreases-tokens : goal.decreases-tokens
decreases-tokens l = length l.scanner.rest.now
