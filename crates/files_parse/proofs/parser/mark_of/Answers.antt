-- Two states are the newest.
use Rattle.std.proofs.Common.{◌-◌, length, arith}
use Rattle.files_parse.proofs.ParserLemmas.{two_newest}
use Rattle.files_parse.proofs.parser.mark_of.Goals as goal

pub returns : goal.returns
returns c = two_newest c.args.states.now (length c.args.states.now - 2) (omega (arith, c.if-states-lt2.false))
