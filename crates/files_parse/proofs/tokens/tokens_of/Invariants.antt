-- The words before the next are tokens.
use Rattle.std.proofs.Common.{map, take}
use Rattle.files_text.specs.Words.{token_of}
use Rattle.files_parse.specs.Tokens.{AreTokens}
use Rattle.files_parse.proofs.tokens.tokens_of.Given as goal

abbrev pub invariant-loop-word : goal.invariant-loop-word
invariant-loop-word l = AreTokens l.file.names (map token_of (take l.word-index l.words)) l.tokens.items
