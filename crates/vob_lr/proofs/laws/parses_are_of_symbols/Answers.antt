-- The law, by the symbols of each rule.
use Rattle.vob_lr.proofs.SidesLemmas.{parse_same}
use Rattle.vob_lr.proofs.laws.parses_are_of_symbols.Goals as goal

pub returns : goal.returns
returns c = parse_same
